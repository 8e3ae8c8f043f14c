use Rattle.std.proofs.Common.{take}
use Rattle.std.specs.Prelude.{All}
use Rattle.vd_constraints.specs.Satisfies.{HoldsCheck}
use Rattle.vd_solver.proofs.checking.first_failing.Given as goal

abbrev pub invariant-loop-place : goal.invariant-loop-place
invariant-loop-place l = All (HoldsCheck l.solution) (take l.place l.system.checks)
