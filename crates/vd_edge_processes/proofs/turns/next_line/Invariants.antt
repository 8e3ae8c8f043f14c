use Rattle.vd_edge_processes.specs.Turns.{KeepAll}
use Rattle.vd_edge_processes.proofs.turns.next_line.Given as goal

abbrev pub invariant-loop : goal.invariant-loop
invariant-loop g l = KeepAll g.P.Player.broken g.P.Player.left l.fn.children l.children
