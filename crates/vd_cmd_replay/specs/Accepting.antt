-- Which files `replay` accepts.
use Rattle.std.specs.Prelude.{◌≡◌, ◌≤◌, ℕ, ℤ, pos}
use Rattle.vd_outside.specs.Files.{Contents}
use Rattle.vd_core.specs.declared.normal.NormalForm.{NormalForm}
use Rattle.vd_cmd_rewrite.specs.RunPrograms.{IsRunProgram}
use Rattle.vd_cmd.specs.declared.command.ReplayWords.{ReplayWords}
use Rattle.vd_tape.specs.Validity.{IsConsistent}
use Rattle.vd_space.specs.Reading.{problem_of}
use Rattle.vd_space.specs.Usual.{firm, hard}
use Rattle.vd_space.specs.declared.problem.Problem.{Problem}
use Rattle.vd_search_stages.specs.Choices.{ChoiceOutcomes}
use Rattle.vd_search_stages.specs.declared.optimum.Assignment.{Assignment}
use Rattle.vd_cmd_labels.specs.Outcomes.{TextOutcomes, LabelOutcomes}
use Rattle.vd_cmd_choice.specs.Searching.{sure_search}
use Rattle.vd_cmd_plan.specs.declared.status.Status.TheVariants.{Ended}
use Rattle.vd_cmd_choice.specs.Choice.{IsSelected}
use Rattle.vd_cmd_files.specs.Outcomes.{ReplayOutcomes}
use Rattle.vd_cmd_replay.specs.Replaying.{replay_plan}
use Rattle.vd_cmd_replay.specs.Telling.{HoldReplay}

-- The files hold a source that meets every rule, inputs, a consistent deal and a schedule; and the program that is run for it has a
-- least labelling, and a choice of protocols at whose cost the budget is no less than this count of prefixes.
pub record IsAcceptedBy (count : Problem → ℤ → ℕ) (words : ReplayWords) (contents : Contents) : Type 0 where
  pub held : HoldReplay words contents
  pub consistent : IsConsistent held.asked.deals
  pub program : NormalForm
  pub is_run : IsRunProgram held.source program
  pub assignment : Assignment
  pub selected : IsSelected program assignment
  pub enough : count (problem_of program selected.labels) (pos assignment.cost) ≤ words.budget

-- for which the budget is enough
abbrev pub IsAccepted : ReplayWords → Contents → Type 0
IsAccepted words contents = IsAcceptedBy firm words contents

-- It is enough where it is no less than the count by the first bound alone.
abbrev pub HardBudgetsAreEnough : Type 0
HardBudgetsAreEnough = (words : ReplayWords) (contents : Contents) → IsAcceptedBy hard words contents → IsAccepted words contents

-- With some function that gives least labellings, and whatever other functions pick outcomes, the plan of the command ends well.
abbrev pub EndsWell : ReplayWords → Contents → Type 0
EndsWell words contents =
    (least : LabelOutcomes) × ((texts : TextOutcomes) (outcomes : ReplayOutcomes) (choices : ChoiceOutcomes)
    → (replay_plan texts outcomes least choices (sure_search choices) words contents).answer.status ≡ Ended)
