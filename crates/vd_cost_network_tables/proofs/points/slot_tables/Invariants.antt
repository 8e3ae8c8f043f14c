use Rattle.std.proofs.Common.{◌≡◌}
use Rattle.vd_space_prefix.specs.Transfers.{by_place}
use Rattle.vd_cost_network_tables.specs.Tables.{table_by}
use Rattle.vd_cost_network_tables.proofs.points.slot_tables.Given as goal

abbrev pub invariant-loop-slot : goal.invariant-loop-slot
invariant-loop-slot l = l.tables ≡ by_place l.slot (table_by l.problem l.sums)
