use Rattle.std.proofs.Common.{◌≡◌, take}
use Rattle.std.specs.Prelude.{All}
use Rattle.vd_constraints.specs.Satisfies.{HoldsCheck, HoldsRule}
use Rattle.vd_flow.proofs.confirm.Given as goal

abbrev pub invariant-loop-place : goal.invariant-loop-place
invariant-loop-place l = All (HoldsRule l.labels) (take l.place l.system.lower)

abbrev pub invariant-loop-place-2 : goal.invariant-loop-place-2
invariant-loop-place-2 l = All (HoldsRule l.labels) l.system.lower × All (HoldsCheck l.labels) (take l.place l.system.checks)
