use Rattle.std.proofs.Common.{◌≡◌}
use Rattle.vd_space_prefix.specs.Transfers.{by_place}
use Rattle.vd_cost_network_tables.specs.Tables.{least_column}
use Rattle.vd_cost_network_tables.proofs.cells.least_columns.Given as goal

abbrev pub invariant-loop-second : goal.invariant-loop-second
invariant-loop-second l = l.leasts ≡ by_place l.second (least_column l.firsts l.cells)
