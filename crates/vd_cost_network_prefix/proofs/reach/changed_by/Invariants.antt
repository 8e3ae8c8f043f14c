use Rattle.std.proofs.Common.{◌≡◌, filter}
use Rattle.std.specs.List.{range_with_len}
use Rattle.vd_cost_network_prefix.specs.Reach.{may_change}
use Rattle.vd_cost_network_prefix.proofs.reach.changed_by.Given as goal

abbrev pub invariant-loop-point : goal.invariant-loop-point
invariant-loop-point l = l.changed ≡ filter (may_change l.problem l.tables.switches l.slot) (range_with_len 0 l.point)
