use Rattle.std.proofs.Common.{◌≡◌, length, map, bit_xor, take}
use Rattle.vd_channel_crypto.proofs.codes.padded.Given as goal

abbrev pub invariant-bytes : goal.invariant-bytes
invariant-bytes l = (length l.bytes ≡ 64) × (take l.i l.bytes ≡ map (λ b. bit_xor b l.pad) (take l.i l.block))
