use Rattle.std.proofs.Common.{◌≡◌, map, take}
use Rattle.vd_cost_network_tables.specs.Raws.{member_raw}
use Rattle.vd_cost_network_tables.proofs.arcs.member_arcs.Given as goal

abbrev pub invariant-loop-member : goal.invariant-loop-member
invariant-loop-member l = l.arcs ≡ map (member_raw l.list l.point l.host) (take l.member-index l.members)
