use Rattle.std.proofs.Common.{◌≡◌, drop}
use Rattle.vd_space.specs.Validity.{stand_so_far}
use Rattle.vd_space.proofs.validity.are_candidates.Given as goal

abbrev pub invariant-loop-at : goal.invariant-loop-at
invariant-loop-at l = stand_so_far l.problem (drop l.at l.problem.slots) (drop l.at l.prefix) ≡ stand_so_far l.problem l.problem.slots l.prefix
