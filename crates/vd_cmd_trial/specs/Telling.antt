-- What a trial prints: the cost of the choice of protocols, and that all hosts have ended and printed what the source tells them.
-- And how it ends.
use Rattle.std.specs.Prelude.{◌≡◌, ℕ, List, [], ◌++◌, length, map, slice_index_or, Result, Ok, Err, IfOk}
use Rattle.std.specs.List.{range_with_len}
use Rattle.vd_base.specs.declared.host_state.HostState.TheVariants as state
use Rattle.vd_core.specs.declared.normal.NormalForm.{NormalForm}
use Rattle.vd_core.specs.declared.source.Source.{Source}
use Rattle.vd_semantics.specs.ProgramMeaning.{program_outputs}
use Rattle.vd_semantics.specs.SourceMeaning.{source_outputs}
use Rattle.vd_elaborate.specs.Normal.{normal_form}
use Rattle.vd_gen.specs.Source.{generated}
use Rattle.vd_report.specs.declared.reports.HostLine.{HostLine}
use Rattle.vd_report.specs.ChoiceLines.{cost_line}
use Rattle.vd_report.specs.ReportLines.{host_lines}
use Rattle.vd_search_stages.specs.declared.optimum.Assignment.{Assignment}
use Rattle.vd_cmd_plan.specs.declared.answer.Answer.{Answer}
use Rattle.vd_cmd_plan.specs.declared.status.Status.{Status}
use Rattle.vd_cmd_plan.specs.declared.status.Status.TheVariants.{Ended, Memory, WriteFault, Flow, NoAssignment, Spent}
use Rattle.vd_cmd_labels.specs.Sources.{IsSourceText}
use Rattle.vd_cmd_choice.specs.Choice.{IsSelected}
use Rattle.vd_cmd_replay.specs.Telling.{IsReport}
use Rattle.vd_cmd_trial.specs.Trial.{trial_asked}

-- how a host stands that has ended, and has printed all words that it is told
abbrev pub ended_line : (outputs : List (List ℕ)) → ℕ → HostLine
ended_line outputs h = record { state = state.Ended; printed = slice_index_or outputs h [] }

-- the report where all hosts have ended
abbrev pub ended_lines : (hosts outputs : List (List ℕ)) → List ℕ
ended_lines hosts outputs = host_lines hosts hosts (map (ended_line outputs) (range_with_len 0 (length hosts)))

-- A run of a program at its choice of protocols, on as many inputs and items as its hosts take there. All hosts have ended, each
-- with all words that it is told; what is printed are the cost of the choice and the report that says so.
pub record IsRun (coordinates : ℕ) (program : NormalForm) (outputs : List (List ℕ) → List (List ℕ)) (printed : List ℕ) : Type 0 where
  pub assignment : Assignment
  pub selected : IsSelected program assignment
  pub lines : List ℕ
  pub report : let asked = trial_asked coordinates program assignment.protocols in IsReport program (outputs asked.inputs) asked lines
  pub ends : lines ≡ ended_lines program.hosts (outputs (trial_asked coordinates program assignment.protocols).inputs)
  pub printed_is : printed ≡ cost_line assignment.cost ++ lines

-- The generated text is that of a source that meets every rule, and what is printed is the cost of its choice of protocols and
-- the report of a run of it on the inputs, the deal and the schedule of a trial, in which all hosts end.
pub record IsTrial (coordinates : ℕ) (printed : List ℕ) : Type 0 where
  pub source : Source
  pub text : IsSourceText source (generated coordinates)
  pub run : IsRun coordinates (normal_form source) (source_outputs source) printed

-- ---- where a program was run, what is printed is such a run

abbrev pub TellsProgram : (coordinates : ℕ) → NormalForm → Result Answer Status → Type 0
TellsProgram coordinates program result = IfOk result (λ answer. answer.status ≡ Ended → IsRun coordinates program (program_outputs program) answer.printed)

abbrev pub TellsSource : (coordinates : ℕ) → Source → Result Answer Status → Type 0
TellsSource coordinates source result = IfOk result (λ answer. answer.status ≡ Ended → IsRun coordinates (normal_form source) (source_outputs source) answer.printed)

abbrev pub TellsTrial : (coordinates : ℕ) → Result Answer Status → Type 0
TellsTrial coordinates result = IfOk result (λ answer. answer.status ≡ Ended → IsTrial coordinates answer.printed)

-- ---- how a trial ends

-- A trial ends well, or out of memory, or at a write that failed, or no protocols are found for its source: a flow check fails, no
-- list of protocols is valid, or the budget is spent. So its source is never refused for its text, names, kinds or limits.
abbrev pub EndsTrial : Status → Type 0
EndsTrial Ended = Unit {0}
EndsTrial Memory = Unit {0}
EndsTrial WriteFault = Unit {0}
EndsTrial (Flow fault) = Unit {0}
EndsTrial (NoAssignment form) = Unit {0}
EndsTrial (Spent budget form) = Unit {0}
EndsTrial status = ⊥

-- the answer of a trial ends so, and stores no file; and so does a refusal
abbrev pub AnswersTrial : Result Answer Status → Type 0
AnswersTrial (Ok answer) = (answer.stores ≡ []) × EndsTrial answer.status
AnswersTrial (Err status) = EndsTrial status
