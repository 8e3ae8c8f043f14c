-- Where the plan of `column` ends well, it prints the section of the words of the table.
use Rattle.std.proofs.Common.{◌≡◌, ℕ, IsTrue, List, Result, Ok, Err, refl}
use Rattle.vd_base.specs.Lexical.{is_name}
use Rattle.vd_base.specs.Limits.{most_inputs_bytes}
use Rattle.vd_outside.specs.Files.{Contents, fetched}
use Rattle.vd_outside.specs.declared.faults.FetchFault.{FetchFault}
use Rattle.vd_outside.specs.declared.faults.FetchFault.TheVariants as fetch_fault
use Rattle.vd_cmd.specs.declared.command.ColumnWords.{ColumnWords}
use Rattle.vd_cmd_plan.specs.Plans.{answer_then, check_then, file_then, with_file}
use Rattle.vd_cmd_plan.specs.declared.status.Status.{Status}
use Rattle.vd_cmd_plan.specs.declared.status.Status.TheVariants.{Ended}
use Rattle.vd_report.specs.SectionLines.{section_text}
use Rattle.vd_cmd_data.specs.Columns.{ColumnsTell, IsReadBack, TellsColumn, bytes_plan, rows_plan}
use Rattle.vd_cmd_data.specs.Tables.{table_words}
use Rattle.vd_cmd_data.proofs.Refusing.{never_ended}
use Rattle.vd_report.proofs.Front.{sections_read}
use Rattle.vd_cmd_data.proofs.WordsGiven.{rows_fit}

module _ (words : ColumnWords) (contents : Contents) where
  read_back : IsTrue (is_name words.host) → (bytes : List ℕ) (rows : List (List ℕ)) → table_words words.file words.columns bytes ≡ Ok rows → IsReadBack words.host rows (section_text words.host rows)
  read_back named bytes rows is hosts number found =
      let fit = rows_fit words.file words.columns bytes rows is in
      sections_read words.host rows named fit.0 fit.1 hosts number found

  by_rows : (bytes : List ℕ) → fetched (contents words.file) most_inputs_bytes ≡ Ok bytes → (r : Result (List (List ℕ)) Status) → table_words words.file words.columns bytes ≡ r
      → (check_then r (rows_plan words.host) contents).answer.status ≡ Ended
      → TellsColumn words contents (check_then r (rows_plan words.host) contents).answer.printed
  unfolding check_then answer_then
  by_rows bytes got (Ok rows) is ends = record { rows = rows; held = record { bytes = bytes; is_fetched = got; holds = is }; section = refl; read_back = λ named hosts number found. read_back named bytes rows is hosts number found }
  by_rows bytes got (Err status) is ends = absurd (never_ended words.file words.columns bytes status is ends)

  by_fetch : (r : Result (List ℕ) FetchFault) → fetched (contents words.file) most_inputs_bytes ≡ r → (with_file words.file most_inputs_bytes r (λ bytes. bytes_plan words bytes contents)).answer.status ≡ Ended
      → TellsColumn words contents (with_file words.file most_inputs_bytes r (λ bytes. bytes_plan words bytes contents)).answer.printed
  by_fetch (Ok bytes) got ends = by_rows bytes got (table_words words.file words.columns bytes) refl ends
  by_fetch (Err fetch_fault.TooLong) got ends = absurd (cc ends)
  by_fetch (Err fetch_fault.Failed) got ends = absurd (cc ends)
  by_fetch (Err fetch_fault.Memory) got ends = absurd (cc ends)

pub columns_told : ColumnsTell
unfolding file_then
columns_told words contents ends = by_fetch words contents (fetched (contents words.file) most_inputs_bytes) refl ends
