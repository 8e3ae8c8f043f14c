-- What the command `report` answers, step by step, and what it has printed where its plan ends well.
use Rattle.std.proofs.Common.{◌≡◌, ℕ, true, List, [], Result, Ok, Err, refl, ap, ◌∙◌, subst}
use Rattle.vd_base.specs.Limits.{most_inputs_bytes}
use Rattle.vd_base.specs.declared.ids.HostId.{HostId}
use Rattle.vd_core.specs.declared.source.Source.{Source}
use Rattle.vd_elaborate.specs.Normal.{normal_form}
use Rattle.vd_outside.specs.Files.{Contents, FilesView}
use Rattle.vd_cmd.specs.declared.command.ReportWords.{ReportWords}
use Rattle.vd_cmd_plan.specs.Loads.{Loads}
use Rattle.vd_cmd_plan.specs.Plans.{Checks, Computes, Executes, Plan, ended}
use Rattle.vd_cmd_plan.specs.declared.answer.Answer.{Answer}
use Rattle.vd_cmd_plan.specs.declared.status.Status.{Status}
use Rattle.vd_cmd_plan.proofs.Front.{answers, check_step, load_step}
use Rattle.vd_cmd_labels.specs.Outcomes.{LabelOutcomes}
use Rattle.vd_cmd_rewrite.specs.RunPrograms.{run_form}
use Rattle.vd_cmd_rewrite.proofs.Front.{run_form_is}
use Rattle.vd_cmd_choice.specs.declared.programs.SourceProgram.{SourceProgram}
use Rattle.vd_cmd_depends.specs.Depending.{as_host}
use Rattle.vd_cmd_laws.proofs.Front.{answered, check_came, ends_as, file_came, made_of, read_came}
use Rattle.vd_cmd_data.specs.declared.readings.Reading.{Reading}
use Rattle.vd_cmd_data.specs.Printed.{printed_words}
use Rattle.vd_cmd_data.specs.Reporting.{ExecutesBytes, ReportsTell, bytes_plan, file_plan, named_words, printed_as, program_plan, readings_in, readings_plan, report_plan}
use Rattle.vd_cmd_data.specs.Tables.{then_with}
use Rattle.vd_cmd_data.proofs.ReportRefusing.{host_never, readings_never}

module _ (words : ReportWords) (loaded : SourceProgram) (host : HostId) where
  pub bytes_refused : (bytes : List ℕ) (files : FilesView) (status : Status) → Checks {T = List Reading} (readings_in words loaded host bytes) (Err status)
      → Executes true (bytes_plan words loaded host bytes) files files (Err status)
  bytes_refused bytes files status checks = check_step (readings_in words loaded host bytes) files (Err status) checks (readings_plan words)

  pub bytes_answered : (bytes : List ℕ) (files : FilesView) (readings : List Reading) (result : Result Answer Status) → Checks (readings_in words loaded host bytes) (Ok readings)
      → Computes (ended [] (printed_as words readings)) result → Executes true (bytes_plan words loaded host bytes) files files result
  bytes_answered bytes files readings result checks computes =
      check_step (readings_in words loaded host bytes) files (Ok readings) checks (readings_plan words) files result (answers (ended [] (printed_as words readings)) files result computes)

  pub file_refused : (before now : FilesView) (status : Status) → Loads words.file most_inputs_bytes before now (Err status) → Executes true (file_plan words loaded host) before now (Err status)
  file_refused before now status loads = load_step words.file most_inputs_bytes before now (Err status) loads (bytes_plan words loaded host)

  pub file_then_bytes : (bytes seen : List ℕ) (before now : FilesView) (result : Result Answer Status) → Loads words.file most_inputs_bytes before now (Ok bytes) → seen ≡ bytes
      → ExecutesBytes words loaded host seen result → Executes true (file_plan words loaded host) before now result
  file_then_bytes bytes seen before now result loads same executes =
      load_step words.file most_inputs_bytes before now (Ok bytes) loads (bytes_plan words loaded host) now result
      (subst (λ (b : List ℕ). Executes true (bytes_plan words loaded host b) now now result) same (executes now))

module _ (words : ReportWords) (loaded : SourceProgram) where
  pub host_refused : (files : FilesView) (status : Status) → Checks {T = HostId} (as_host loaded.program.hosts words.host) (Err status) → Executes true (program_plan words loaded) files files (Err status)
  host_refused files status checks = check_step (as_host loaded.program.hosts words.host) files (Err status) checks (file_plan words loaded)

  pub host_then : (host : HostId) (before now : FilesView) (result : Result Answer Status) → Checks (as_host loaded.program.hosts words.host) (Ok host)
      → Executes true (file_plan words loaded host) before now result → Executes true (program_plan words loaded) before now result
  host_then host before now result checks executes = check_step (as_host loaded.program.hosts words.host) before (Ok host) checks (file_plan words loaded) now result executes

-- ---- what was printed

-- the words of a file that gave readings
then_came : {A B : Type 0} (first : Result A Status) (next : A → Result B Status) (b : B) → then_with first next ≡ Ok b → (a : A) × (first ≡ Ok a) × (next a ≡ Ok b)
then_came (Ok a) next b is = (a, refl, is)
then_came (Err status) next b is = absurd (cc is)

pub reports_told : ReportsTell
reports_told texts least words contents ends =
    let loading : List ℕ → Source → SourceProgram = λ text source. record { text = text; program = run_form least (normal_form source) } in
    let reading : List ℕ → Source → Contents → Plan = λ text source. program_plan words (loading text source) in
    let whole = report_plan texts least words in
    let file = read_came contents texts words.source reading whole refl ends in
    let source = file.0 in
    let held = file.1 in
    let loaded = loading held.bytes source in
    let program_ends = ends_as contents whole (reading held.bytes source) ends file.2 in
    let host = check_came contents (as_host loaded.program.hosts words.host) (file_plan words loaded) (host_never loaded.program.hosts words.host) program_ends in
    let file_ends = ends_as contents (program_plan words loaded) (file_plan words loaded host.0) program_ends host.2 in
    let bytes = file_came contents words.file most_inputs_bytes (bytes_plan words loaded host.0) file_ends in
    let bytes_end = ends_as contents (file_plan words loaded host.0) (bytes_plan words loaded host.0 bytes.0) file_ends bytes.2 in
    let read = check_came contents (readings_in words loaded host.0 bytes.0) (readings_plan words) (readings_never words loaded host.0 bytes.0) bytes_end in
    let told = then_came {A = List ℕ} {B = List Reading} (printed_words words.file words.host bytes.0) (named_words words.file loaded host.0) read.0 read.1 in
    record {
      source = source;
      held = held;
      program = loaded.program;
      is_run = run_form_is least source (made_of words.source contents source held);
      host = host.0;
      named = host.1;
      told = told.0;
      tells = record { bytes = bytes.0; is_fetched = bytes.1; holds = told.1 };
      readings = read.0;
      are_named = told.2;
      lines = ap (λ (a : Answer). a.printed) (file.2 ∙ host.2 ∙ bytes.2 ∙ read.2 ∙ answered contents (ended [] (printed_as words read.0)));
    }
