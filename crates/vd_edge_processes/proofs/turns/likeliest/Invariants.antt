use Rattle.std.proofs.Common.{◌≡◌, ◌<◌, length, IfSome}
use Rattle.vd_edge_processes.specs.Turns.{EndedAs}
use Rattle.vd_edge_processes.proofs.turns.likeliest.Given as goal

abbrev pub invariant-loop-number : goal.invariant-loop-number
invariant-loop-number g l =
    (length l.children ≡ length l.fn.children)
    × IfSome l.found (λ found. (found.0 < l.number) × EndedAs g.P.Player.ended l.children found.0 found.1)
