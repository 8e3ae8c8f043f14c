use Rattle.std.proofs.Common.{◌≡◌, take}
use Rattle.vd_cost_network_tables.specs.Raws.{member_cells}
use Rattle.vd_cost_network_tables.proofs.arcs.member_costs.Given as goal

abbrev pub invariant-loop-protocol : goal.invariant-loop-protocol
invariant-loop-protocol l = l.cells ≡ member_cells (take l.protocol-index l.list) l.host
