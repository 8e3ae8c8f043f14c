use Rattle.vd_space_api.specs.Low.{least_guard}
use Rattle.vd_space_api.proofs.Smalls.{IsSum}
use Rattle.vd_space_api.proofs.bound.guards_sum.Given as goal

abbrev pub invariant-loop-at : goal.invariant-loop-at
invariant-loop-at l = IsSum (least_guard l.problem l.prefix) l.problem.guards 4000000000 l.at l.sum
