use Rattle.std.proofs.Common.{◌≡◌}
use Rattle.vd_cost_network_bound.proofs.Passing.{passing_below}
use Rattle.vd_cost_network_bound.proofs.making.passing.Given as goal

abbrev pub invariant-loop-setting : goal.invariant-loop-setting
invariant-loop-setting l = l.settings ≡ passing_below l.tests l.setting
