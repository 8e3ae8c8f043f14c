use Rattle.vd_space_api.specs.Low.{least_use}
use Rattle.vd_space_api.proofs.Smalls.{IsSum}
use Rattle.vd_space_api.proofs.bound.uses_sum.Given as goal

abbrev pub invariant-loop-at : goal.invariant-loop-at
invariant-loop-at l = IsSum (least_use l.problem l.prefix) l.problem.uses 1000000000 l.at l.sum
