use Rattle.std.proofs.Common.{◌≡◌, length, reverse}
use Rattle.vd_reorder.specs.Packets.{since}
use Rattle.vd_reorder.proofs.packets.since.Given as goal

abbrev pub invariant-instructions : goal.invariant-instructions
invariant-instructions l = since l.register (reverse l.rest) ≡ since l.register (reverse l.before)

abbrev pub decreases-instructions : goal.decreases-instructions
decreases-instructions l = length l.rest
