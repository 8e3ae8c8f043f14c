-- The command `run`.
use Rattle.std.specs.Prelude.{◌≡◌, ℕ, true, IsTrue, List, length, OnOk, Result, Ok, Err}
use Rattle.vd_base.specs.Limits.{most_search_budget}
use Rattle.vd_cmd.specs.declared.command.RunWords.{RunWords}
use Rattle.vd_cmd_compile.specs.Compiling.{compile_plan}
use Rattle.vd_cmd_labels.specs.Outcomes.{LabelOutcomes, TextOutcomes}
use Rattle.vd_outside.specs.Files.{FilesView}
use Rattle.vd_cmd_plan.specs.Labelled.{LabelledForm}
use Rattle.vd_cmd_plan.specs.Plans.{Executes}
use Rattle.vd_cmd_plan.specs.declared.answer.Answer.{Answer}
use Rattle.vd_cmd_plan.specs.declared.status.Status.{Status}
use Rattle.vd_cmd_plan.specs.declared.status.Status.TheVariants.{Ended, Memory, NoAssignment}
use Rattle.vd_cmd_choice.specs.Searching.{SomeSearch}
use Rattle.vd_cmd_run.specs.CommandLines.{command_lines}
use Rattle.vd_cmd_run.specs.Compiled.{AreHostsOf}
use Rattle.vd_cmd_run.specs.RunsHosts.{Outside, RunsHosts}
use Rattle.vd_cmd_run.specs.Statuses.{run_status}
use Rattle.vd_cmd_run.specs.declared.fault.RunFault.{RunFault}

-- What is done behind the answer of `compile`, for hosts with these names: nothing, where it was refused or no assignment is
-- valid, or there was no memory for the command lines; else all hosts are run.
pub data Plays (words : RunWords) (names : List (List ℕ)) (before now : Outside) : Result Answer Status → Status → Type 0 where
  Refused : (status : Status) → now ≡ before → Plays words names before now (Err status) status
  Unassigned : (answer : Answer) (form : LabelledForm) → answer.status ≡ NoAssignment form → now ≡ before → Plays words names before now (Ok answer) (NoAssignment form)
  NoMemory : (answer : Answer) → now ≡ before → Plays words names before now (Ok answer) Memory
  Played : (answer : Answer) (result : Result (Unit {0}) RunFault) → answer.status ≡ Ended
      → RunsHosts answer.stores names words.program (command_lines words.prefix words.inputs words.port (length names)) before now result
      → Plays words names before now (Ok answer) (run_status names result)

-- The source is compiled with the greatest budget, and its hosts are played as the answer says. With `search` and the
-- functions that pick outcomes the answer is that of `compile`.
pub record Runs (words : RunWords) (before now : Outside) (status : Status) : Type 0 where
  pub compiled : FilesView
  pub came : Result Answer Status
  pub names : List (List ℕ)
  pub executes : SomeSearch (λ choices search. (texts : TextOutcomes) (least : LabelOutcomes)
      → Executes true (compile_plan texts least choices search words.source words.prefix most_search_budget) before.files compiled came)
  pub hosts : IsTrue before.files.told → OnOk came (AreHostsOf words.source before.files.contents names)
  pub plays : Plays words names (record before { files = compiled }) now came status
