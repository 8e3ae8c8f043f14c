use Rattle.std.proofs.Common.{◌≡◌, drop, map}
use Rattle.vd_execution.specs.Gadgets.{Alone}
use Rattle.vd_execution.specs.declared.instructions.Action.TheVariants as action
use Rattle.vd_duet.specs.Calls.{appended}
use Rattle.vd_clear.specs.Copies.{compared}
use Rattle.vd_clear.proofs.show.compare.Given as goal

abbrev pub invariant-loop-other : goal.invariant-loop-other
invariant-loop-other l = appended (map (λ s. Alone l.host (action.Same l.first s)) (drop l.other-index l.others)) l.to ≡ appended (compared l.host l.registers) l.initial.to
