use Rattle.std.proofs.Common.{take}
use Rattle.std.specs.Prelude.{All}
use Rattle.vd_constraints.specs.Systems.{IsLabelOver}
use Rattle.vd_flow.proofs.are_over.Given as goal

abbrev pub invariant-loop-label : goal.invariant-loop-label
invariant-loop-label l = All (IsLabelOver l.names) (take l.label-index l.labels)
