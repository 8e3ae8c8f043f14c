-- The command `report`.
use Rattle.std.specs.Prelude.{◌≡◌, ℕ, true, List, [], Ok, Result, if◌then◌else◌}
use Rattle.vd_base.specs.Limits.{most_inputs_bytes}
use Rattle.vd_base.specs.declared.ids.HostId.{HostId}
use Rattle.vd_core.specs.declared.normal.NormalForm.{NormalForm}
use Rattle.vd_core.specs.declared.source.Source.{Source}
use Rattle.vd_outside.specs.Files.{FilesView, Contents}
use Rattle.vd_cmd.specs.declared.command.ReportWords.{ReportWords}
use Rattle.vd_cmd_plan.specs.Held.{IsHeld}
use Rattle.vd_cmd_plan.specs.Plans.{Plan, Executes, answer_then, check_then, ended, file_then}
use Rattle.vd_cmd_plan.specs.declared.answer.Answer.{Answer}
use Rattle.vd_cmd_plan.specs.declared.status.Status.{Status}
use Rattle.vd_cmd_plan.specs.declared.status.Status.TheVariants.{Ended}
use Rattle.vd_cmd_labels.specs.Outcomes.{LabelOutcomes, TextOutcomes}
use Rattle.vd_cmd_labels.specs.Sources.{HoldsSource}
use Rattle.vd_cmd_rewrite.specs.RunPrograms.{IsRunProgram}
use Rattle.vd_cmd_choice.specs.Programs.{source_program_then}
use Rattle.vd_cmd_choice.specs.declared.programs.SourceProgram.{SourceProgram}
use Rattle.vd_cmd_depends.specs.Depending.{as_host}
use Rattle.vd_cmd_data.specs.declared.readings.Reading.{Reading}
use Rattle.vd_cmd_data.specs.Outputs.{outputs_count, outputs_of}
use Rattle.vd_cmd_data.specs.Printed.{printed_words}
use Rattle.vd_cmd_data.specs.Readings.{readings_of}
use Rattle.vd_cmd_data.specs.ReportText.{json_text, lines_text}
use Rattle.vd_cmd_data.specs.Tables.{then_with}

-- a line for each word, or one JSON object
abbrev pub printed_as : ReportWords → List Reading → List ℕ
printed_as words readings = if words.json then json_text words.host readings else lines_text readings

-- the words that a host of a program printed, each with the names of the outputs that can have told it
abbrev pub named_words : (file : List ℕ) → SourceProgram → HostId → (told : List ℕ) → Result (List Reading) Status
named_words file loaded host told = readings_of file (outputs_count loaded.program host) (outputs_of loaded.text loaded.program host) told

abbrev pub readings_in : ReportWords → SourceProgram → HostId → (bytes : List ℕ) → Result (List Reading) Status
readings_in words loaded host bytes = then_with (printed_words words.file words.host bytes) (named_words words.file loaded host)

abbrev pub readings_plan : ReportWords → List Reading → Contents → Plan
readings_plan words readings = answer_then (ended [] (printed_as words readings))

abbrev pub bytes_plan : ReportWords → SourceProgram → HostId → (bytes : List ℕ) → Contents → Plan
bytes_plan words loaded host bytes = check_then (readings_in words loaded host bytes) (readings_plan words)

abbrev pub file_plan : ReportWords → SourceProgram → HostId → Contents → Plan
file_plan words loaded host = file_then words.file most_inputs_bytes (bytes_plan words loaded host)

-- the host is looked for first
abbrev pub program_plan : ReportWords → SourceProgram → Contents → Plan
program_plan words loaded = check_then (as_host loaded.program.hosts words.host) (file_plan words loaded)

abbrev pub report_plan : TextOutcomes → LabelOutcomes → ReportWords → Contents → Plan
report_plan texts least words = source_program_then texts least words.source (program_plan words)

-- ---- what the command does, whatever functions pick outcomes

abbrev pub ExecutesBytes : ReportWords → SourceProgram → HostId → (bytes : List ℕ) → Result Answer Status → Type 0
ExecutesBytes words loaded host bytes result = (files : FilesView) → Executes true (bytes_plan words loaded host bytes) files files result

abbrev pub ExecutesFile : ReportWords → SourceProgram → HostId → FilesView → FilesView → Result Answer Status → Type 0
ExecutesFile words loaded host before now result = Executes true (file_plan words loaded host) before now result

abbrev pub ExecutesProgram : ReportWords → SourceProgram → FilesView → FilesView → Result Answer Status → Type 0
ExecutesProgram words loaded before now result = Executes true (program_plan words loaded) before now result

abbrev pub ExecutesReport : ReportWords → FilesView → FilesView → Result Answer Status → Type 0
ExecutesReport words before now result = (texts : TextOutcomes) (least : LabelOutcomes) → Executes true (report_plan texts least words) before now result

-- ---- what it has shown, where it ended well

-- The one file is the text of a source that meets every rule. The other tells which words the host of this name printed. Each was
-- printed with the names of the outputs of the program that is run which can have told it.
pub record TellsReport (words : ReportWords) (contents : Contents) (printed : List ℕ) : Type 0 where
  pub source : Source
  pub held : HoldsSource words.source contents source
  pub program : NormalForm
  pub is_run : IsRunProgram source program
  pub host : HostId
  pub named : as_host program.hosts words.host ≡ Ok host
  pub told : List ℕ
  pub tells : IsHeld words.file most_inputs_bytes contents (λ bytes. printed_words words.file words.host bytes ≡ Ok told)
  pub readings : List Reading
  pub are_named : named_words words.file (record { text = held.bytes; program = program }) host told ≡ Ok readings
  pub lines : printed ≡ printed_as words readings

abbrev pub ReportsTell : Type 0
ReportsTell = (texts : TextOutcomes) (least : LabelOutcomes) (words : ReportWords) (contents : Contents)
    → let plan = report_plan texts least words contents in plan.answer.status ≡ Ended → TellsReport words contents plan.answer.printed
