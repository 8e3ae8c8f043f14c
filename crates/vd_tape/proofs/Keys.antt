-- Two keys of 32 bytes are two keys of the cipher, two numbers are two keys, and the state of a block tells its key and its place.
use Rattle.std.proofs.Common.{◌≡◌, ◌<◌, ◌∙◌, ℕ, zero, suc, ◌+◌, ◌*◌, ◌/◌, ◌%◌, ◌^◌, List, [], ◌∷◌, ◌++◌, arith, ap, sym, add-zero, slice_index, refl}
use Rattle.std.specs.Prelude.{replicate}
use Rattle.std.specs.Int.{byte_at, w64, to_le_bytes, from_le_bytes}
use Rattle.std.specs.List.{AllByRecursion}
use Rattle.std.proofs.lemmas.List.{ext_get_or}
use Rattle.std.proofs.lemmas.Nat.{from_le_bytes-to_le_bytes_8}
use Rattle.rand_chacha.specs.Block.{initial_state}
use Rattle.rand_core.specs.Steps.{u32_at}
use Rattle.vd_tape.specs.Made.{cipher_key, number_key}
use Rattle.vd_tape.specs.Drawn.{IsKey, PlacesAreApart}

-- the four bytes of a word
bytes_of : (a b c d e f g h : ℕ) → a < 2 ^ 8 → b < 2 ^ 8 → c < 2 ^ 8 → d < 2 ^ 8 → e < 2 ^ 8 → f < 2 ^ 8 → g < 2 ^ 8 → h < 2 ^ 8
    → a + b * 2 ^ 8 + c * 2 ^ 16 + d * 2 ^ 24 ≡ e + f * 2 ^ 8 + g * 2 ^ 16 + h * 2 ^ 24 → (a ≡ e) × (b ≡ f) × (c ≡ g) × (d ≡ h)
bytes_of a b c d e f g h ha hb hc hd he hf hg hh is = (
  omega (arith, ha, hb, hc, hd, he, hf, hg, hh, is),
  omega (arith, ha, hb, hc, hd, he, hf, hg, hh, is),
  omega (arith, ha, hb, hc, hd, he, hf, hg, hh, is),
  omega (arith, ha, hb, hc, hd, he, hf, hg, hh, is),
)

four : (k l : List ℕ) → IsKey k → IsKey l → (i : ℕ) → u32_at k i ≡ u32_at l i
    → (slice_index k (4 * i) ≡ slice_index l (4 * i)) × (slice_index k (4 * i + 1) ≡ slice_index l (4 * i + 1))
    × (slice_index k (4 * i + 2) ≡ slice_index l (4 * i + 2)) × (slice_index k (4 * i + 3) ≡ slice_index l (4 * i + 3))
unfolding u32_at
four k l a b i e =
    bytes_of _ _ _ _ _ _ _ _ (a.each (4 * i)) (a.each (4 * i + 1)) (a.each (4 * i + 2)) (a.each (4 * i + 3))
    (b.each (4 * i)) (b.each (4 * i + 1)) (b.each (4 * i + 2)) (b.each (4 * i + 3)) e

-- ---- the state of a block

words : (k l : List ℕ) (a b m n : ℕ) → initial_state (cipher_key k) a m ≡ initial_state (cipher_key l) b n → (i : ℕ) → i < 8 → u32_at k i ≡ u32_at l i
unfolding cipher_key
words k l a b m n e zero h = ap (λ (xs : List ℕ). slice_index xs 4) e
words k l a b m n e (suc zero) h = ap (λ (xs : List ℕ). slice_index xs 5) e
words k l a b m n e (suc (suc zero)) h = ap (λ (xs : List ℕ). slice_index xs 6) e
words k l a b m n e (suc (suc (suc zero))) h = ap (λ (xs : List ℕ). slice_index xs 7) e
words k l a b m n e (suc (suc (suc (suc zero)))) h = ap (λ (xs : List ℕ). slice_index xs 8) e
words k l a b m n e (suc (suc (suc (suc (suc zero))))) h = ap (λ (xs : List ℕ). slice_index xs 9) e
words k l a b m n e (suc (suc (suc (suc (suc (suc zero)))))) h = ap (λ (xs : List ℕ). slice_index xs 10) e
words k l a b m n e (suc (suc (suc (suc (suc (suc (suc zero))))))) h = ap (λ (xs : List ℕ). slice_index xs 11) e
words k l a b m n e (suc (suc (suc (suc (suc (suc (suc (suc i)))))))) h = absurd (omega (arith, h))

module _ (k l : List ℕ) (a : IsKey k) (b : IsKey l) (same : (i : ℕ) → i < 8 → u32_at k i ≡ u32_at l i) where
  -- the byte at a place of a word
  at_place : (i r : ℕ) → i < 8 → r < 4 → slice_index k (4 * i + r) ≡ slice_index l (4 * i + r)
  at_place i zero h r = ap (slice_index k) (add-zero (4 * i)) ∙ (four k l a b i (same i h)).0 ∙ ap (slice_index l) (sym (add-zero (4 * i)))
  at_place i (suc zero) h r = (four k l a b i (same i h)).1
  at_place i (suc (suc zero)) h r = (four k l a b i (same i h)).2
  at_place i (suc (suc (suc zero))) h r = (four k l a b i (same i h)).3
  at_place i (suc (suc (suc (suc n)))) h r = absurd (omega (arith, r))

  at_each : (i : ℕ) → i < 32 → slice_index k i ≡ slice_index l i
  at_each i h =
      let is : 4 * (i / 4) + i % 4 ≡ i = omega arith in
      ap (slice_index k) (sym is) ∙ at_place (i / 4) (i % 4) (omega (arith, h)) (omega arith) ∙ ap (slice_index l) is

  keys_same : k ≡ l
  keys_same =
      let one = a.bytes in
      let other = b.bytes in
      ext_get_or 0 k l (one ∙ sym other) (λ i h. at_each i (omega (arith, one, h)))

halves_same : (a b : ℕ) → a % 2 ^ 32 ≡ b % 2 ^ 32 → a / 2 ^ 32 ≡ b / 2 ^ 32 → a ≡ b
halves_same a b low high = omega (arith, low, high)

places_same : (p q : ℕ) → p / 16 ≡ q / 16 → p % 16 ≡ q % 16 → p ≡ q
places_same p q block index = omega (arith, block, index)

pub places_apart : PlacesAreApart
places_apart k l s t p q a b e f = (
  keys_same k l a b (words k l (p / 16) (q / 16) s t e),
  halves_same s t (ap (λ (xs : List ℕ). slice_index xs 14) e) (ap (λ (xs : List ℕ). slice_index xs 15) e),
  places_same p q (halves_same (p / 16) (q / 16) (ap (λ (xs : List ℕ). slice_index xs 12) e) (ap (λ (xs : List ℕ). slice_index xs 13) e)) f,
)

-- ---- numbers

abbrev AreBytes : List ℕ → Type 0
AreBytes = AllByRecursion (λ b. b < 256)

byte_small : (k n : ℕ) → byte_at k n < 256
byte_small zero n = omega arith
byte_small (suc k) n = let m : ℕ = n / 256 ^ suc k in let f : m % 256 < 256 = omega arith in f

both_small : (xs ys : List ℕ) → AreBytes xs → AreBytes ys → AreBytes (xs ++ ys)
both_small [] ys f g = g
both_small (x ∷ xs) ys f g = (f.0, both_small xs ys f.1 g)

zeros_small : (n : ℕ) → AreBytes (replicate n 0)
zeros_small zero = tt
zeros_small (suc n) = (omega arith, zeros_small n)

at_index : (xs : List ℕ) (i : ℕ) → AreBytes xs → slice_index xs i < 256
at_index [] i all = omega arith
at_index (x ∷ xs) zero all = all.0
at_index (x ∷ xs) (suc i) all = at_index xs i all.1

pub number_is_key : (number : ℕ) → IsKey (number_key number)
unfolding number_key
number_is_key number = record {
  bytes = refl;
  each = λ i. at_index (to_le_bytes w64 number ++ replicate 24 0) i (both_small (to_le_bytes w64 number) (replicate 24 0) (
    byte_small 0 number,
    (byte_small 1 number, (byte_small 2 number, (byte_small 3 number, (byte_small 4 number, (byte_small 5 number, (byte_small 6 number, (byte_small 7 number, tt))))))),
  ) (zeros_small 24));
}

-- the number of which the first two words of its key are the halves
halves : (k : ℕ) → k < 2 ^ 64 → slice_index (cipher_key (number_key k)) 0 + slice_index (cipher_key (number_key k)) 1 * 2 ^ 32 ≡ k
unfolding cipher_key number_key u32_at
halves k l =
    let e : from_le_bytes w64 (to_le_bytes w64 k) ≡ k = from_le_bytes-to_le_bytes_8 k l in
    omega (arith, e)

pub numbers_apart : (k l : ℕ) → k < 2 ^ 64 → l < 2 ^ 64 → number_key k ≡ number_key l → k ≡ l
numbers_apart k l low less e =
    sym (halves k low) ∙ ap (λ (xs : List ℕ). slice_index (cipher_key xs) 0 + slice_index (cipher_key xs) 1 * 2 ^ 32) e ∙ halves l less
