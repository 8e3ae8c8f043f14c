use Rattle.vd_edge_processes.specs.Turns.{KeepAll}
use Rattle.vd_edge_processes.proofs.turns.read_all.Given as goal

abbrev pub invariant-loop-place : goal.invariant-loop-place
invariant-loop-place g l = KeepAll g.P.Player.broken g.P.Player.left l.fn.children l.children
