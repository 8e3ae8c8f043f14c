use Rattle.std.proofs.Common.{◌≡◌, map, take}
use Rattle.vd_space.specs.Arcs.{arcs}
use Rattle.vd_space.specs.Network.{network_pairs}
use Rattle.vd_cost_network_tables.specs.Tables.{arc_table}
use Rattle.vd_cost_network_tables.proofs.assembly.arc_tables.Given as goal

abbrev pub invariant-loop-number : goal.invariant-loop-number
invariant-loop-number l = l.tables ≡ map (arc_table l.problem) (take l.number (network_pairs l.shifts 0 (arcs l.problem)))
