use Rattle.std.proofs.Common.{◌≡◌, take}
use Rattle.vd_cost_network_tables.specs.Raws.{scaled_cells}
use Rattle.vd_cost_network_tables.proofs.arcs.scaled_table.Given as goal

abbrev pub invariant-loop-row : goal.invariant-loop-row
invariant-loop-row l = l.rows ≡ scaled_cells l.weight (take l.row-index l.prices)
