use Rattle.std.proofs.Common.{◌≡◌, ◌↔◌, IsTrue, take}
use Rattle.vd_channel_crypto.proofs.codes.same.Given as goal

abbrev pub invariant-bytes : goal.invariant-bytes
invariant-bytes l = IsTrue l.equal ↔ (take l.i l.left ≡ take l.i l.right)
