use Rattle.vd_space.specs.Validity.{all_hosts}
use Rattle.vd_space_api.specs.Low.{guard_number}
use Rattle.vd_space_api.proofs.Smalls.{IsSum}
use Rattle.vd_space_api.proofs.bound.guard_sum.Given as goal

abbrev pub invariant-loop-host : goal.invariant-loop-host
invariant-loop-host l = IsSum (guard_number l.problem l.prefix l.guard) (all_hosts l.problem) 1000000000 l.host l.sum
