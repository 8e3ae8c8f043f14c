-- What is said of a status of which no file is read: how a command is called, or that a file which only this program writes
-- is another.
use Rattle.std.specs.Prelude.{ℕ, false, List, [], ◌++◌, Option, Some, None, codes, if◌then◌else◌}
use Rattle.std.specs.Option.{option_map_or}
use Rattle.std.specs.Str.{bytes_eq}
use Rattle.vd_cmd_plan.specs.Numbered.{file_name}
use Rattle.vd_cmd_plan.specs.declared.status.HostStatus.{HostStatus}
use Rattle.vd_cmd_plan.specs.declared.status.HostStatus.TheVariants as host_status
use Rattle.vd_cmd_plan.specs.declared.status.Status.{Status}
use Rattle.vd_cmd_plan.specs.declared.status.Status.TheVariants as status
use Rattle.vd_diag.specs.Files.{certificate_sentence, deal_sentence, program_sentence}
use Rattle.vd_diag.specs.Remarks.{of_file, told}
use Rattle.vd_diag.specs.Usage.{usage_of}
use Rattle.vd_diag_terminal.specs.Files.{command, word_at}
use Rattle.vd_diag_terminal.specs.WrongWord.{wrong_of}

-- a sentence on the whole file with this name
abbrev pub of_whole : List ℕ → List ℕ → List ℕ
of_whole name sentence = told false name [] (of_file sentence)

-- on the file that the word at this place names; nothing where there is no such word
abbrev pub of_word : List (List ℕ) → ℕ → List ℕ → List ℕ
of_word words place sentence = option_map_or (λ name. of_whole name sentence) (word_at words place) []

abbrev pub of_host : List (List ℕ) → HostStatus → List ℕ
of_host words (host_status.ProgramText offset) = of_word words 1 (program_sentence offset)
of_host words fault = []

-- on the deal file with this prefix and number; nothing where there is no prefix
abbrev pub of_numbered : Option (List ℕ) → (number offset : ℕ) → List ℕ
of_numbered None number offset = []
of_numbered (Some prefix) number offset = of_whole (file_name prefix number (codes ".deal")) (deal_sentence offset)

-- The words of `check`, of `host` and of `host-within` name the deal file; those of others name its prefix, but `excuse` in another word.
abbrev pub of_deal : List (List ℕ) → (number offset : ℕ) → List ℕ
of_deal words number offset =
    if bytes_eq (command words) (codes "excuse") then []
    else if bytes_eq (command words) (codes "check") then of_word words 3 (deal_sentence offset)
    else if bytes_eq (command words) (codes "host") then of_word words 3 (deal_sentence offset)
    else if bytes_eq (command words) (codes "host-within") then of_word words 3 (deal_sentence offset)
    else of_numbered (word_at words 3) number offset

-- how the command that was meant is called, and which word is wrong
abbrev pub of_usage : List (List ℕ) → List ℕ
of_usage words = usage_of (command words) ++ wrong_of words

abbrev pub alone : List (List ℕ) → Status → List ℕ
alone words status.Usage = of_usage words
alone words (status.CertificateText offset) = of_word words 2 (certificate_sentence offset)
alone words (status.DealText host number offset) = of_deal words number offset
alone words (status.Host fault) = of_host words fault
alone words status = []
