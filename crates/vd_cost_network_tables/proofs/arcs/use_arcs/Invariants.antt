use Rattle.std.proofs.Common.{◌≡◌, map, take}
use Rattle.vd_cost_network_tables.specs.Raws.{use_raw}
use Rattle.vd_cost_network_tables.proofs.arcs.use_arcs.Given as goal

abbrev pub invariant-loop-item : goal.invariant-loop-item
invariant-loop-item l = l.arcs ≡ map (use_raw l.moves) (take l.item-index l.uses)
