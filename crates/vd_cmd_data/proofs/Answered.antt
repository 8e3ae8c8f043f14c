-- What the command answers, step by step.
use Rattle.std.proofs.Common.{◌≡◌, ℕ, true, List, [], Result, Ok, Err, subst}
use Rattle.vd_base.specs.Limits.{most_inputs_bytes}
use Rattle.vd_outside.specs.Files.{FilesView}
use Rattle.vd_cmd.specs.declared.command.ColumnWords.{ColumnWords}
use Rattle.vd_cmd_plan.specs.Loads.{Loads}
use Rattle.vd_cmd_plan.specs.Plans.{Checks, Computes, Executes, ended}
use Rattle.vd_cmd_plan.specs.declared.answer.Answer.{Answer}
use Rattle.vd_cmd_plan.specs.declared.status.Status.{Status}
use Rattle.vd_cmd_plan.proofs.Front.{answers, check_step, load_step}
use Rattle.vd_cmd_data.specs.Columns.{bytes_plan, column_plan, rows_plan}
use Rattle.vd_report.specs.SectionLines.{section_text}
use Rattle.vd_cmd_data.specs.Tables.{table_words}

pub refused_bytes : (words : ColumnWords) (bytes : List ℕ) (files : FilesView) (status : Status) → Checks {T = List (List ℕ)} (table_words words.file words.columns bytes) (Err status)
    → Executes true (bytes_plan words bytes) files files (Err status)
refused_bytes words bytes files status checks = check_step (table_words words.file words.columns bytes) files (Err status) checks (rows_plan words.host)

pub answered : (words : ColumnWords) (bytes : List ℕ) (files : FilesView) (rows : List (List ℕ)) (result : Result Answer Status) → Checks (table_words words.file words.columns bytes) (Ok rows)
    → Computes (ended [] (section_text words.host rows)) result → Executes true (bytes_plan words bytes) files files result
answered words bytes files rows result checks computes =
    check_step (table_words words.file words.columns bytes) files (Ok rows) checks (rows_plan words.host) files result (answers (ended [] (section_text words.host rows)) files result computes)

pub fetch_refused : (words : ColumnWords) (before now : FilesView) (status : Status) → Loads words.file most_inputs_bytes before now (Err status)
    → Executes true (column_plan words) before now (Err status)
fetch_refused words before now status loads = load_step words.file most_inputs_bytes before now (Err status) loads (bytes_plan words)

pub fetched_then : (words : ColumnWords) (bytes seen : List ℕ) (before now : FilesView) (result : Result Answer Status) → Loads words.file most_inputs_bytes before now (Ok bytes) → seen ≡ bytes
    → Executes true (bytes_plan words seen) now now result → Executes true (column_plan words) before now result
fetched_then words bytes seen before now result loads same then =
    load_step words.file most_inputs_bytes before now (Ok bytes) loads (bytes_plan words) now result (subst (λ b. Executes true (bytes_plan words b) now now result) same then)
