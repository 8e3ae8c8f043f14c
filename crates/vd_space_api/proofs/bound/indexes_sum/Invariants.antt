use Rattle.vd_space_api.specs.Low.{least_index}
use Rattle.vd_space_api.proofs.Smalls.{IsSum}
use Rattle.vd_space_api.proofs.bound.indexes_sum.Given as goal

abbrev pub invariant-loop-at : goal.invariant-loop-at
invariant-loop-at l = IsSum (least_index l.problem l.prefix) l.problem.indexes 1000000000 l.at l.sum
