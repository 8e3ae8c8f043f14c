-- The problem of choosing protocols for a program.
use Rattle.std.specs.Prelude.{◌≡◌, Result, Ok, Err}
use Rattle.vd_core.specs.declared.normal.NormalForm.{NormalForm}
use Rattle.vd_constraints.specs.Rules.{system_of}
use Rattle.vd_constraints.specs.Satisfies.{IsLeast}
use Rattle.vd_constraints.specs.declared.labels.Labels.{Labels}
use Rattle.vd_space.specs.declared.problem.Problem.{Problem}
use Rattle.vd_space.specs.Reading.{problem_of}
use Rattle.vd_cmd_plan.specs.declared.status.Status.{Status}
use Rattle.vd_cmd_labels.specs.Outcomes.{LabelOutcomes}
use Rattle.vd_cmd_labels.specs.Labelling.{labels_of}

abbrev pub as_problem : NormalForm → Result Labels Status → Result Problem Status
as_problem program (Ok labels) = Ok (problem_of program labels)
as_problem program (Err status) = Err status

-- under the least labels of the program, or the status of their refusal
abbrev pub problem_for : LabelOutcomes → NormalForm → Result Problem Status
problem_for least program = as_problem program (labels_of least program)

-- the problem is that of the program under its least labels
pub record IsProblemOf (program : NormalForm) (problem : Problem) : Type 0 where
  pub labels : Labels
  pub least : IsLeast (system_of program) labels
  pub same : problem ≡ problem_of program labels
