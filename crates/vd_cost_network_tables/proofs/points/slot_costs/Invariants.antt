use Rattle.std.proofs.Common.{◌≡◌}
use Rattle.vd_space_prefix.specs.Transfers.{by_place}
use Rattle.vd_cost_network_tables.specs.Tables.{own_value}
use Rattle.vd_cost_network_tables.proofs.points.slot_costs.Given as goal

abbrev pub invariant-loop-place : goal.invariant-loop-place
invariant-loop-place l = l.costs ≡ by_place l.place (own_value l.problem l.slot l.values l.amounts)
