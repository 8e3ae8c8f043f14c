use Rattle.vd_space_api.specs.Low.{least_output}
use Rattle.vd_space_api.proofs.Smalls.{IsSum}
use Rattle.vd_space_api.proofs.bound.outputs_sum.Given as goal

abbrev pub invariant-loop-at : goal.invariant-loop-at
invariant-loop-at l = IsSum (least_output l.problem l.prefix) l.problem.outputs 1000000000 l.at l.sum
