-- What a stream is made of, and that what its blocks begin with tells all apart.
use Rattle.std.proofs.Common.{arith, ◌≡◌, ◌<◌, ◌+◌, ◌*◌, ◌/◌, ◌%◌, ◌^◌, ℕ, zero, suc, List, [], ◌∷◌, ◌++◌, refl, ap, sym, ◌∙◌, add-zero, slice_index}
use Rattle.std.proofs.lemmas.List.{ext_get_or}
use Rattle.rand_chacha.specs.Block.{initial_state}
use Rattle.rand_chacha.specs.ChaCha.{key_of}
use Rattle.rand_core.specs.Steps.{u32_at, word_bytes}
use Rattle.vd_channel_crypto.specs.Laws.{AreBytes, IsKey, StreamsAreApart, block_bytes}
use Rattle.vd_channel_crypto.specs.Streams.{key_stream}

two_blocks : (key : List ℕ) (number : ℕ) → key_stream key number ≡ block_bytes key number 0 ++ block_bytes key number 1
unfolding word_bytes
two_blocks key number = refl

-- ---- the key of a state

-- the eight words of a key
words_same : (j k : List ℕ) (a b m n : ℕ) → initial_state (key_of j) a m ≡ initial_state (key_of k) b n → (i : ℕ) → i < 8 → u32_at j i ≡ u32_at k i
words_same j k a b m n e zero h = ap (λ (xs : List ℕ). slice_index xs 4) e
words_same j k a b m n e (suc zero) h = ap (λ (xs : List ℕ). slice_index xs 5) e
words_same j k a b m n e (suc (suc zero)) h = ap (λ (xs : List ℕ). slice_index xs 6) e
words_same j k a b m n e (suc (suc (suc zero))) h = ap (λ (xs : List ℕ). slice_index xs 7) e
words_same j k a b m n e (suc (suc (suc (suc zero)))) h = ap (λ (xs : List ℕ). slice_index xs 8) e
words_same j k a b m n e (suc (suc (suc (suc (suc zero))))) h = ap (λ (xs : List ℕ). slice_index xs 9) e
words_same j k a b m n e (suc (suc (suc (suc (suc (suc zero)))))) h = ap (λ (xs : List ℕ). slice_index xs 10) e
words_same j k a b m n e (suc (suc (suc (suc (suc (suc (suc zero))))))) h = ap (λ (xs : List ℕ). slice_index xs 11) e
words_same j k a b m n e (suc (suc (suc (suc (suc (suc (suc (suc i)))))))) h = absurd (omega (arith, h))

each_small : (xs : List ℕ) → AreBytes xs → (i : ℕ) → slice_index xs i < 2 ^ 8
each_small [] f i = omega arith
each_small (x ∷ xs) f zero = f.0
each_small (x ∷ xs) f (suc i) = each_small xs f.1 i

-- the four bytes of a word
bytes_of : (a b c d e f g h : ℕ) → a < 2 ^ 8 → b < 2 ^ 8 → c < 2 ^ 8 → d < 2 ^ 8 → e < 2 ^ 8 → f < 2 ^ 8 → g < 2 ^ 8 → h < 2 ^ 8
    → a + b * 2 ^ 8 + c * 2 ^ 16 + d * 2 ^ 24 ≡ e + f * 2 ^ 8 + g * 2 ^ 16 + h * 2 ^ 24 → (a ≡ e) × (b ≡ f) × (c ≡ g) × (d ≡ h)
bytes_of a b c d e f g h ha hb hc hd he hf hg hh is = (
  omega (arith, ha, hb, hc, hd, he, hf, hg, hh, is),
  omega (arith, ha, hb, hc, hd, he, hf, hg, hh, is),
  omega (arith, ha, hb, hc, hd, he, hf, hg, hh, is),
  omega (arith, ha, hb, hc, hd, he, hf, hg, hh, is),
)

module _ (j k : List ℕ) (is : IsKey j) (also : IsKey k) where
  four : (i : ℕ) → u32_at j i ≡ u32_at k i
      → (slice_index j (4 * i) ≡ slice_index k (4 * i)) × (slice_index j (4 * i + 1) ≡ slice_index k (4 * i + 1))
      × (slice_index j (4 * i + 2) ≡ slice_index k (4 * i + 2)) × (slice_index j (4 * i + 3) ≡ slice_index k (4 * i + 3))
  unfolding u32_at
  four i e =
      let one = each_small j is.each in
      let other = each_small k also.each in
      bytes_of _ _ _ _ _ _ _ _ (one (4 * i)) (one (4 * i + 1)) (one (4 * i + 2)) (one (4 * i + 3))
      (other (4 * i)) (other (4 * i + 1)) (other (4 * i + 2)) (other (4 * i + 3)) e

  at_place : (i r : ℕ) → u32_at j i ≡ u32_at k i → r < 4 → slice_index j (4 * i + r) ≡ slice_index k (4 * i + r)
  at_place i zero e h = ap (slice_index j) (add-zero (4 * i)) ∙ (four i e).0 ∙ ap (slice_index k) (sym (add-zero (4 * i)))
  at_place i (suc zero) e h = (four i e).1
  at_place i (suc (suc zero)) e h = (four i e).2
  at_place i (suc (suc (suc zero))) e h = (four i e).3
  at_place i (suc (suc (suc (suc n)))) e h = absurd (omega (arith, h))

  at_each : ((i : ℕ) → i < 8 → u32_at j i ≡ u32_at k i) → (i : ℕ) → i < 32 → slice_index j i ≡ slice_index k i
  at_each words i h =
      let place : 4 * (i / 4) + i % 4 ≡ i = omega arith in
      ap (slice_index j) (sym place) ∙ at_place (i / 4) (i % 4) (words (i / 4) (omega (arith, h))) (omega arith) ∙ ap (slice_index k) place

  key_same : ((i : ℕ) → i < 8 → u32_at j i ≡ u32_at k i) → j ≡ k
  key_same words =
      let one = is.long in
      let other = also.long in
      ext_get_or 0 j k (one ∙ sym other) (λ i h. at_each words i (omega (arith, one, h)))

-- ---- its numbers

halves_same : (a b : ℕ) → a % 2 ^ 32 ≡ b % 2 ^ 32 → a / 2 ^ 32 ≡ b / 2 ^ 32 → a ≡ b
halves_same a b low high = omega (arith, low, high)

states_apart : (j k : List ℕ) (a b m n : ℕ) → IsKey j → IsKey k → initial_state (key_of j) a m ≡ initial_state (key_of k) b n → (j ≡ k) × (a ≡ b) × (m ≡ n)
states_apart j k a b m n is also e = (
  key_same j k is also (words_same j k a b m n e),
  halves_same a b (ap (λ (xs : List ℕ). slice_index xs 12) e) (ap (λ (xs : List ℕ). slice_index xs 13) e),
  halves_same m n (ap (λ (xs : List ℕ). slice_index xs 14) e) (ap (λ (xs : List ℕ). slice_index xs 15) e),
)

pub streams_apart : StreamsAreApart
streams_apart = record { blocks = two_blocks; apart = states_apart }
