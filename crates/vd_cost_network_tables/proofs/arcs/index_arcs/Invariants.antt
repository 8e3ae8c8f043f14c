use Rattle.std.proofs.Common.{◌≡◌, map, take}
use Rattle.vd_cost_network_tables.specs.Raws.{index_raw}
use Rattle.vd_cost_network_tables.proofs.arcs.index_arcs.Given as goal

abbrev pub invariant-loop-index : goal.invariant-loop-index
invariant-loop-index l = l.arcs ≡ map (index_raw l.tells) (take l.index-index l.indexes)
