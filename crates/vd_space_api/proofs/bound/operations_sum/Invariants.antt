use Rattle.vd_space.specs.Costs.{slots_of}
use Rattle.vd_space_api.specs.Low.{least_operation}
use Rattle.vd_space_api.proofs.Smalls.{IsSum}
use Rattle.vd_space_api.proofs.bound.operations_sum.Given as goal

abbrev pub invariant-loop-slot : goal.invariant-loop-slot
invariant-loop-slot l = IsSum (least_operation l.problem l.prefix) (slots_of l.problem) 1000000000 l.slot l.sum
