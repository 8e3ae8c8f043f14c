use Rattle.std.proofs.Common.{◌≡◌, ◌+◌, ◌++◌, length, drop}
use Rattle.vd_cost_network_tables.specs.Raws.{raws_by, raws_from}
use Rattle.vd_cost_network_tables.proofs.arcs.raw_arcs.Given as goal

abbrev pub invariant-loop-number : goal.invariant-loop-number
invariant-loop-number l = l.arcs ++ raws_from l.problem l.list (length l.problem.slots + l.number) (drop l.number l.switches) ≡ raws_by l.problem l.list l.moves l.tells l.switches
