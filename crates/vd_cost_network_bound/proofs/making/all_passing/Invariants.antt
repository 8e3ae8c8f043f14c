use Rattle.std.proofs.Common.{◌≡◌, map, take}
use Rattle.vd_cost_network_bound.specs.Least.{passing}
use Rattle.vd_cost_network_bound.proofs.making.all_passing.Given as goal

abbrev pub invariant-loop-point : goal.invariant-loop-point
invariant-loop-point l = l.free ≡ map passing (take l.point l.settings)
