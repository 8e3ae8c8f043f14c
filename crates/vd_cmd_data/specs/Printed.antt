-- The words that a host printed, read from a file: what `host` prints, or a line of `replay`.
use Rattle.std.specs.Prelude.{◌≡◌, ℕ, ◌-◌, ◌==◌, Bool, true, ◌&&◌, List, [], ◌∷◌, ◌++◌, Option, Some, None, is_none, Result, Ok, Err, codes, length, take, drop, nat_le, slice_index_or, if◌then◌else◌}
use Rattle.std.specs.Str.{bytes_eq}
use Rattle.vd_base.specs.Lexical.{is_space, number_of}
use Rattle.vd_report.specs.LineWords.{line_words, with_word}
use Rattle.vd_cmd_plan.specs.declared.status.Status.{Status}
use Rattle.vd_cmd_plan.specs.declared.status.Status.TheVariants.{Memory, Report}
use Rattle.vd_cmd_plan.specs.declared.status.ReportFault.{ReportFault}
use Rattle.vd_cmd_plan.specs.declared.status.ReportFault.TheVariants.{Cut, Text}
use Rattle.vd_cmd_data.specs.declared.printed.Split.{Split}
use Rattle.vd_cmd_data.specs.Tables.{each_from}

-- a file is refused by its fault, or there was no memory for that
abbrev pub IsFaultIn : (file : List ℕ) → ReportFault → Status → Type 0
IsFaultIn file fault Memory = Unit {0}
IsFaultIn file fault status = status ≡ Report file fault

abbrev pub as_number : (file : List ℕ) → Option ℕ → Result ℕ Status
as_number file (Some number) = Ok number
as_number file None = Err (Report file Text)

abbrev pub number_in : (file word : List ℕ) → Result ℕ Status
number_in file word = as_number file (number_of word)

-- ---- words of a text, byte by byte

abbrev pub after_byte : Split → ℕ → Split
after_byte split byte =
    if is_space byte then record { words = split.words ++ with_word split.begun []; begun = [] }
    else record { words = split.words; begun = split.begun ++ byte ∷ [] }

-- words that are numbers
abbrev pub numbers_in : (file : List ℕ) → (words : List (List ℕ)) → Result (List ℕ) Status
numbers_in file words = each_from (λ _ word. number_in file word) 1 words

-- ---- a line of `replay`: the host's name, `ended`, how many words, and these

abbrev pub counted_by : (file : List ℕ) → (count : Option ℕ) → (words : List (List ℕ)) → Result (List ℕ) Status
counted_by file None words = Err (Report file Text)
counted_by file (Some count) words = if nat_le count (length words) then numbers_in file (take count words) else Err (Report file Cut)

abbrev pub counted_in : (file : List ℕ) → (words : List (List ℕ)) → Result (List ℕ) Status
counted_in file [] = Err (Report file Cut)
counted_in file (count ∷ words) = counted_by file (number_of count) words

-- a host that has not ended has not printed all
abbrev pub state_in : (file : List ℕ) → (words : List (List ℕ)) → Result (List ℕ) Status
state_in file [] = Err (Report file Cut)
state_in file (state ∷ words) = if bytes_eq state (codes "ended") then counted_in file words else Err (Report file Cut)

-- behind the name of a host that another waits for stands a number
abbrev pub is_state : List (List ℕ) → Bool
is_state [] = true
is_state (word ∷ words) = is_none (number_of word)

abbrev pub begins_line : (host word : List ℕ) → (behind : List (List ℕ)) → Bool
begins_line host word behind = bytes_eq word host && is_state behind

-- what stands in the line of the host, or this fault where it has none
abbrev pub lined : (file host : List ℕ) → ReportFault → (words : List (List ℕ)) → Result (List ℕ) Status
lined file host fault [] = Err (Report file fault)
lined file host fault (word ∷ words) = if begins_line host word words then state_in file words else lined file host fault words

-- ---- of either form

abbrev pub first_word : List (List ℕ) → List ℕ
first_word words = slice_index_or words 0 []

abbrev pub is_begun : List (List ℕ) → Bool
is_begun words = bytes_eq (first_word words) (codes "listening")

-- all that `host` prints
abbrev pub is_whole : List (List ℕ) → Bool
is_whole words = is_begun words && bytes_eq (slice_index_or words (length words - 1) []) (codes "ended")

-- without the first and the last
abbrev pub between : List (List ℕ) → List (List ℕ)
between words = drop 1 (take (length words - 1) words)

abbrev pub absent : List (List ℕ) → ReportFault
absent words = if is_begun words then Cut else Text

-- the numbers between `listening` and `ended`, or those of the host's line
abbrev pub told_in : (file host : List ℕ) → (words : List (List ℕ)) → Result (List ℕ) Status
told_in file host words = if is_whole words then numbers_in file (between words) else lined file host (absent words) words

-- the last line is whole
abbrev pub is_ended : List ℕ → Bool
is_ended bytes = slice_index_or bytes (length bytes - 1) 0 == 10

abbrev pub printed_words : (file host bytes : List ℕ) → Result (List ℕ) Status
printed_words file host bytes = if is_ended bytes then told_in file host (line_words bytes) else Err (Report file Cut)
