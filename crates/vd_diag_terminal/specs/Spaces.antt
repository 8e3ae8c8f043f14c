-- The space of choices for a program.
use Rattle.std.specs.Prelude.{◌≡◌}
use Rattle.vd_core.specs.declared.normal.NormalForm.{NormalForm}
use Rattle.vd_constraints.specs.Rules.{system_of}
use Rattle.vd_constraints.specs.Satisfies.{IsLeast}
use Rattle.vd_constraints.specs.declared.labels.Labels.{Labels}
use Rattle.vd_space.specs.declared.problem.Problem.{Problem}
use Rattle.vd_space.specs.Reading.{problem_of}

-- the problem under these labels, which are the least
pub record IsSpaceFor (p : NormalForm) (labels : Labels) (problem : Problem) : Type 0 where
  pub least : IsLeast (system_of p) labels
  pub is : problem ≡ problem_of p labels
