-- The command `column`.
use Rattle.std.specs.Prelude.{◌≡◌, ℕ, IsTrue, true, List, [], Some, Ok, Result, length, replicate, slice_set}
use Rattle.vd_base.specs.Lexical.{is_name}
use Rattle.vd_base.specs.Limits.{most_inputs_bytes}
use Rattle.vd_outside.specs.Files.{FilesView, Contents}
use Rattle.vd_cmd.specs.declared.command.ColumnWords.{ColumnWords}
use Rattle.vd_cmd_plan.specs.Held.{IsHeld}
use Rattle.vd_cmd_plan.specs.Plans.{Plan, Executes, answer_then, check_then, ended, file_then}
use Rattle.vd_cmd_plan.specs.declared.answer.Answer.{Answer}
use Rattle.vd_cmd_plan.specs.declared.status.Status.{Status}
use Rattle.vd_cmd_plan.specs.declared.status.Status.TheVariants.{Ended}
use Rattle.vd_report.specs.Hosts.{host_of}
use Rattle.vd_report.specs.InputsText.{GivesInputs}
use Rattle.vd_report.specs.SectionLines.{section_text, words_in}
use Rattle.vd_cmd_data.specs.Tables.{table_words}

-- the section is printed
abbrev pub rows_plan : (host : List ℕ) → (rows : List (List ℕ)) → Contents → Plan
rows_plan host rows = answer_then (ended [] (section_text host rows))

abbrev pub bytes_plan : ColumnWords → (bytes : List ℕ) → Contents → Plan
bytes_plan words bytes = check_then (table_words words.file words.columns bytes) (rows_plan words.host)

abbrev pub column_plan : ColumnWords → Contents → Plan
column_plan words = file_then words.file most_inputs_bytes (bytes_plan words)

abbrev pub ExecutesBytes : ColumnWords → (bytes : List ℕ) → Result Answer Status → Type 0
ExecutesBytes words bytes result = (files : FilesView) → Executes true (bytes_plan words bytes) files files result

abbrev pub ExecutesColumn : ColumnWords → FilesView → FilesView → Result Answer Status → Type 0
ExecutesColumn words before now result = Executes true (column_plan words) before now result

-- Whatever hosts a program has, if one of them has this name, what was printed is an inputs file that gives it all words of these
-- rows, in order, and the others none.
abbrev pub IsReadBack : (host : List ℕ) → (rows : List (List ℕ)) → (printed : List ℕ) → Type 0
IsReadBack host rows printed = (hosts : List (List ℕ)) (number : ℕ) → host_of hosts host ≡ Some number
    → GivesInputs hosts printed (slice_set (replicate (length hosts) []) number (words_in rows))

-- The file is a table that gives these rows of words, and the section of the host with them was printed, which is read back as them.
pub record TellsColumn (words : ColumnWords) (contents : Contents) (printed : List ℕ) : Type 0 where
  pub rows : List (List ℕ)
  pub held : IsHeld words.file most_inputs_bytes contents (λ bytes. table_words words.file words.columns bytes ≡ Ok rows)
  pub section : printed ≡ section_text words.host rows
  pub read_back : IsTrue (is_name words.host) → IsReadBack words.host rows printed

abbrev pub ColumnsTell : Type 0
ColumnsTell = (words : ColumnWords) (contents : Contents)
    → let plan = column_plan words contents in plan.answer.status ≡ Ended → TellsColumn words contents plan.answer.printed
