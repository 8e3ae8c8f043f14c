use Rattle.std.proofs.Common.{◌≡◌, length}
use Rattle.vd_split.specs.Places.{acting}
use Rattle.vd_split.proofs.Opening.{Opening}
use Rattle.vd_split.proofs.blocks.open_loop.Given as goal

abbrev pub invariant-loop-number : goal.invariant-loop-number
invariant-loop-number g l =
    Opening (acting (g.P.Protocols.offer l.protocols).calls l.protos l.body) l.count l.initial.to l.loops l.to l.number
    × (l.number-end ≡ length l.initial.to.next)
