-- What is said of the operators that wrapped in a run of `clear`: where, and how often.
use Rattle.std.specs.Prelude.{◌≡◌, ℕ, nat_eq, Bool, true, false, if◌then◌else◌, List, [], ◌∷◌, ◌++◌, codes, decimal, flat_map, Option, Some, None, Result, Ok, Err, IfOk}
use Rattle.std.specs.List.{count_by, fold, list_any}
use Rattle.std.specs.Str.{bytes_eq}
use Rattle.vd_base.specs.Limits.{most_source_bytes, most_inputs_bytes}
use Rattle.vd_core.specs.declared.source.Infix.{Infix}
use Rattle.vd_core.specs.declared.source.Infix.TheVariants as infix'
use Rattle.vd_semantics.specs.declared.wraps.Wrap.{Wrap}
use Rattle.vd_outside.specs.Files.{FilesView, Fetches}
use Rattle.vd_outside.specs.Sink.{SinkView}
use Rattle.vd_outside.specs.declared.faults.FetchFault.{FetchFault}
use Rattle.vd_cmd_plan.specs.declared.status.Status.{Status}
use Rattle.vd_cmd_plan.specs.declared.status.Status.TheVariants.{Ended}
use Rattle.vd_cmd_labels.specs.WhatWraps.{IsWhatWraps}
use Rattle.vd_diag.specs.Excerpts.{headline}
use Rattle.vd_diag.specs.Parts.{three}
use Rattle.vd_diag.specs.declared.fault.TellFault.{TellFault}
use Rattle.vd_diag_terminal.specs.Files.{command, word_at}
use Rattle.vd_diag_terminal.specs.Said.{IsSaidAlone}
use Rattle.vd_diag_terminal.specs.Saying.{IsWritten}
use Rattle.vd_diag_terminal.specs.declared.telling.Destination.{Destination}
use Rattle.vd_diag_terminal.specs.declared.telling.Destination.TheVariants.{Asked, File, Terminal}

-- ---- the lines

abbrev pub is_at : Wrap → Wrap → Bool
is_at wrap other = nat_eq wrap.at.start other.at.start

-- each place once, in the order in which they wrapped first
abbrev pub with_place : List Wrap → Wrap → List Wrap
with_place places wrap = if list_any (is_at wrap) places then places else places ++ wrap ∷ []

abbrev pub places_of : List Wrap → List Wrap
places_of wraps = fold with_place [] wraps

-- how often an operator wrapped there
abbrev pub times_at : List Wrap → Wrap → ℕ
times_at wraps wrap = count_by (is_at wrap) wraps

abbrev pub which_text : Infix → List ℕ
which_text infix'.Add = codes "this sum went above 4294967295 and wrapped, "
which_text infix'.Sub = codes "this difference went below 0 and wrapped, "
which_text other = codes "this product went above 4294967295 and wrapped, "

abbrev pub noun_of : ℕ → List ℕ
noun_of times = if nat_eq times 1 then codes " time" else codes " times"

abbrev pub wrap_sentence : Infix → (times : ℕ) → List ℕ
wrap_sentence operator times = three (which_text operator) (decimal times) (noun_of times)

abbrev pub wrap_line : Bool → (name bytes : List ℕ) → List Wrap → Wrap → List ℕ
wrap_line coloured name bytes wraps wrap = headline coloured name bytes wrap.at.start (wrap_sentence wrap.operator (times_at wraps wrap))

-- a line for each place
abbrev pub wrap_lines : Bool → (name bytes : List ℕ) → List Wrap → List ℕ
wrap_lines coloured name bytes wraps = flat_map (wrap_line coloured name bytes wraps) (places_of wraps)

-- ---- of two files, by what their fetches gave: a source and inputs

abbrev pub IsWrapsText : Bool → (name bytes words text : List ℕ) → Type 0
IsWrapsText coloured name bytes words text =
    (wraps : List Wrap) × IsWhatWraps bytes words wraps × (text ≡ wrap_lines coloured name bytes wraps)

abbrev pub IsToldOfWords : Bool → (name bytes : List ℕ) → Result (List ℕ) FetchFault → (text : List ℕ) → Type 0
IsToldOfWords coloured name bytes (Ok words) text = IsWrapsText coloured name bytes words text
IsToldOfWords coloured name bytes (Err fault) text = text ≡ []

abbrev pub IsToldOfRun : Bool → (name : List ℕ) → (came given : Result (List ℕ) FetchFault) → (text : List ℕ) → Type 0
IsToldOfRun coloured name (Ok bytes) given text = IsToldOfWords coloured name bytes given text
IsToldOfRun coloured name (Err fault) given text = text ≡ []

-- Both files are fetched, and nothing else is asked of files.
pub record IsSaidOfRun (coloured : Bool) (source inputs : List ℕ) (before now : FilesView) (result : Result (List ℕ) TellFault)
    : Type 0 where
  pub between : FilesView
  pub came : Result (List ℕ) FetchFault
  pub given : Result (List ℕ) FetchFault
  pub first : Fetches source most_source_bytes before between came
  pub second : Fetches inputs most_inputs_bytes between now given
  pub says : IfOk result (IsToldOfRun coloured source came given)

-- of the files with these names; nothing where one has none
abbrev pub IsSaidOfNamed : Bool → (source : List ℕ) → Option (List ℕ) → FilesView → FilesView → Result (List ℕ) TellFault → Type 0
IsSaidOfNamed coloured source None before now result = IsSaidAlone [] before now result
IsSaidOfNamed coloured source (Some inputs) before now result = IsSaidOfRun coloured source inputs before now result

abbrev pub IsSaidOfNames : Bool → Option (List ℕ) → Option (List ℕ) → FilesView → FilesView → Result (List ℕ) TellFault → Type 0
IsSaidOfNames coloured None inputs before now result = IsSaidAlone [] before now result
IsSaidOfNames coloured (Some source) inputs before now result = IsSaidOfNamed coloured source inputs before now result

-- ---- what the error stream gains

pub record SaysOfRun (coloured : Bool) (words : List (List ℕ)) (before now : FilesView) (err_before err_now : SinkView)
    (result : Result (Unit {0}) TellFault) : Type 0 where
  pub said : Result (List ℕ) TellFault
  pub is : IsSaidOfNames coloured (word_at words 1) (word_at words 2) before now said
  pub written : IsWritten said err_before err_now result

abbrev pub SaysNothing : FilesView → FilesView → SinkView → SinkView → Result (Unit {0}) TellFault → Type 0
SaysNothing before now err_before err_now result = (now ≡ before) × (err_now ≡ err_before) × (result ≡ Ok tt)

-- a run of `clear` that ended well
abbrev pub is_clear_run : List (List ℕ) → Status → Bool
is_clear_run words Ended = bytes_eq (command words) (codes "clear")
is_clear_run words other = false

abbrev pub SaysWhere : (is_clear : Bool) → Destination → List (List ℕ) → FilesView → FilesView → SinkView → SinkView
    → Result (Unit {0}) TellFault → Type 0
SaysWhere false destination words before now err_before err_now result = SaysNothing before now err_before err_now result
SaysWhere true File words before now err_before err_now result = SaysNothing before now err_before err_now result
SaysWhere true Asked words before now err_before err_now result = SaysOfRun false words before now err_before err_now result
SaysWhere true (Terminal coloured) words before now err_before err_now result =
    SaysOfRun coloured words before now err_before err_now result

-- Of a run of `clear` that ended well a person at a terminal is told what wrapped, and elsewhere who asks for more; of other runs nobody.
abbrev pub SaysWraps : Destination → List (List ℕ) → Status → FilesView → FilesView → SinkView → SinkView
    → Result (Unit {0}) TellFault → Type 0
SaysWraps destination words status before now err_before err_now result =
    SaysWhere (is_clear_run words status) destination words before now err_before err_now result
