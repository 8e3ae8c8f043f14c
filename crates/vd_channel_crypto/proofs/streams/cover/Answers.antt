use Rattle.std.proofs.Common.{◌≡◌, ◌∙◌, ◌++◌, ◌∷◌, [], ℕ, List, arith, ap, sym, bit_xor, slice_index, length, take}
use Rattle.std.proofs.lemmas.List.{length-set, take_more_set}
use Rattle.std.proofs.lemmas.List.FromFn.{map-range_with_len_more}
use Rattle.vd_channel_crypto.proofs.streams.cover.Goals as goal

pub bytes-preserved : goal.bytes-preserved
bytes-preserved c =
    let len = c.bytes.invariant.0 in
    let more = c.bytes-test.true in
    let byte = bit_xor (slice_index c.args.bytes.now c.bytes.i) (slice_index c.args.stream.now c.bytes.i) in (
      length-set _ _ _ ∙ len,
      take_more_set c.bytes.covered c.bytes.i byte (omega arith) ∙ ap (λ (l : List ℕ). l ++ byte ∷ []) c.bytes.invariant.1
          ∙ sym (map-range_with_len_more (λ k. bit_xor (slice_index c.args.bytes.now k) (slice_index c.args.stream.now k)) 0 c.bytes.i c.bytes.i (omega arith)),
    )
