use Rattle.std.proofs.Common.{◌≡◌}
use Rattle.vd_space_prefix.specs.Transfers.{by_place}
use Rattle.vd_cost_network_prefix.specs.Reach.{changed_by}
use Rattle.vd_cost_network_prefix.proofs.reach.points_by_slot.Given as goal

abbrev pub invariant-loop-slot : goal.invariant-loop-slot
invariant-loop-slot l = l.rows ≡ by_place l.slot (changed_by l.problem l.tables)
