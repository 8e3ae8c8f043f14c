use Rattle.std.proofs.Common.{◌≡◌}
use Rattle.vd_space_prefix.specs.Transfers.{by_place}
use Rattle.vd_cost_network_prefix.specs.Reach.{arcs_at}
use Rattle.vd_cost_network_prefix.proofs.reach.arcs_by_point.Given as goal

abbrev pub invariant-loop-point : goal.invariant-loop-point
invariant-loop-point l = l.rows ≡ by_place l.point (arcs_at l.arcs)
