use Rattle.std.proofs.Common.{◌≡◌, length, map, bit_xor, take, slice_index}
use Rattle.std.specs.List.{range_with_len}
use Rattle.vd_channel_crypto.proofs.streams.cover.Given as goal

abbrev pub invariant-bytes : goal.invariant-bytes
invariant-bytes l = (length l.covered ≡ 128) × (take l.i l.covered ≡ map (λ k. bit_xor (slice_index l.bytes k) (slice_index l.stream k)) (range_with_len 0 l.i))
