use Rattle.std.proofs.Common.{◌≡◌, map, take}
use Rattle.vd_cost_network_tables.specs.Tables.{least_row}
use Rattle.vd_cost_network_tables.proofs.cells.least_rows.Given as goal

abbrev pub invariant-loop-row : goal.invariant-loop-row
invariant-loop-row l = l.leasts ≡ map (least_row l.seconds) (take l.row-index l.cells)
