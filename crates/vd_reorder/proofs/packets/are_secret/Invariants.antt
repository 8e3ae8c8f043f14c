use Rattle.std.proofs.Common.{◌≡◌, ◌+◌, reverse}
use Rattle.vd_reorder.specs.Packets.{are_secret}
use Rattle.vd_reorder.proofs.packets.are_secret.Given as goal

abbrev pub invariant-registers : goal.invariant-registers
invariant-registers l =
    (are_secret (reverse l.all) (reverse l.before) l.register l.left ≡ are_secret (reverse l.all) (reverse l.before) l.first l.count)
    × (l.register + l.left ≡ l.first + l.count)

abbrev pub decreases-registers : goal.decreases-registers
decreases-registers l = l.left
