use Rattle.std.proofs.Common.{◌≡◌}
use Rattle.vd_space_prefix.specs.Transfers.{by_place}
use Rattle.vd_cost_network_bound.specs.Bounds.{values_at}
use Rattle.vd_cost_network_bound.proofs.values.all_slot_values.Given as goal

abbrev pub invariant-loop-slot : goal.invariant-loop-slot
invariant-loop-slot l = l.values ≡ by_place l.slot (values_at l.problem)
