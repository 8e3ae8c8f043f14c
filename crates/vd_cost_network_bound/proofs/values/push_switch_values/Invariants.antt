use Rattle.std.proofs.Common.{◌≡◌, ◌+◌, length}
use Rattle.vd_space_prefix.specs.Transfers.{by_place}
use Rattle.vd_cost_network_bound.specs.Bounds.{values_at}
use Rattle.vd_cost_network_bound.proofs.values.push_switch_values.Given as goal

abbrev pub invariant-loop-number : goal.invariant-loop-number
invariant-loop-number l = l.values ≡ by_place (length l.problem.slots + l.number) (values_at l.problem)
