use Rattle.std.proofs.Common.{◌≡◌, ◌<◌, ◌∙◌, ℕ, List, length, arith, ap, bit_xor, slice_index}
use Rattle.std.proofs.lemmas.List.{ext_get_or}
use Rattle.std.proofs.lemmas.List.FromFn.{get_or-map-range_with_len, length-map-range_with_len}
use Rattle.std.specs.Int.Bits.{xor_assoc, xor_self, xor_zero_r}
use Rattle.vd_channel_crypto.specs.Streams.{under}

-- a second cover takes the first away
pub twice : (bytes stream : List ℕ) → under (under bytes stream) stream ≡ bytes
twice bytes stream =
    let f : ℕ → ℕ = λ i. bit_xor (slice_index bytes i) (slice_index stream i) in
    let g : ℕ → ℕ = λ i. bit_xor (slice_index (under bytes stream) i) (slice_index stream i) in
    let first : length (under bytes stream) ≡ length bytes = length-map-range_with_len f 0 (length bytes) in
    let second : length (under (under bytes stream) stream) ≡ length (under bytes stream) = length-map-range_with_len g 0 (length (under bytes stream)) in
    ext_get_or 0 _ _ (second ∙ first) (λ i h.
    let inner : i < length (under bytes stream) = omega (arith, second, h) in
    let within : i < length bytes = omega (arith, first, inner) in
    get_or-map-range_with_len g 0 (length (under bytes stream)) i i 0 inner (omega arith)
    ∙ ap (λ z. bit_xor z (slice_index stream i)) (get_or-map-range_with_len f 0 (length bytes) i i 0 within (omega arith))
    ∙ xor_assoc (slice_index bytes i) (slice_index stream i) (slice_index stream i)
    ∙ ap (λ z. bit_xor (slice_index bytes i) z) (xor_self (slice_index stream i))
    ∙ xor_zero_r (slice_index bytes i))
