-- Single bits of what is shifted, negated and cut, and the operations that go bit by bit.
use Rattle.std.proofs.Common.{◌≡◌, ℕ, ◌+◌, ◌-◌, ◌*◌, ◌%◌, ◌^◌, ◌<◌, ◌≤◌, min, max, sym, ap, ◌∙◌, arith, bit_or, lit<, add-zero, pow_pos}
use Rattle.std.specs.Int.{bit_at, w32}
use Rattle.std.proofs.lemmas.Nat.{xor_lt, and_mask, shr-shr}
use Rattle.std.proofs.lemmas.Nat.Bits.{bit_at_and, bit_at_or, bit_at_xor, bit_at_not, bit_at-lt, bit_at-zero, bit_at_ones, bit_at_cat_low, bit_at_cat_high, same_from_bits, same_from_bits_below}
use Rattle.vd_backend_sharing.specs.Circuits.{shl, shr, not_of, or_of}

bit_mod : (n k i : ℕ) → i < k → bit_at (n % 2 ^ k) i ≡ bit_at n i
bit_mod n k i h =
    let one : bit_at (2 ^ k - 1) i ≡ 1 = bit_at_ones k i h in
    let small = bit_at-lt n i in
    ap (λ (z : ℕ). bit_at z i) (sym (and_mask n k)) ∙ bit_at_and n (2 ^ k - 1) i ∙ ap (λ (z : ℕ). min (bit_at n i) z) one ∙ omega arith

pub bit_of_word : (n i : ℕ) → i < 32 → bit_at (n % 2 ^ 32) i ≡ bit_at n i
bit_of_word n i h = bit_mod n 32 i h

-- ---- shifts

pub shl_low : (n s i : ℕ) → i < 32 → i < s → bit_at (shl n s) i ≡ 0
shl_low n s i h l =
    bit_mod (n * 2 ^ s) 32 i h ∙ ap (λ (z : ℕ). bit_at z i) (sym (add-zero (n * 2 ^ s))) ∙ bit_at_cat_low n s 0 i l ∙ bit_at-zero i

pub shl_high : (n s i : ℕ) → i < 32 → s ≤ i → bit_at (shl n s) i ≡ bit_at n (i - s)
shl_high n s i h l = bit_mod (n * 2 ^ s) 32 i h ∙ ap (λ (z : ℕ). bit_at z i) (sym (add-zero (n * 2 ^ s))) ∙ bit_at_cat_high n s 0 i (pow_pos s) l

pub shr_bit : (n s i : ℕ) → bit_at (shr n s) i ≡ bit_at n (s + i)
shr_bit n s i = ap (λ (z : ℕ). z % 2) (shr-shr n s i)

-- ---- each bit turned

pub not_bit : (n i : ℕ) → i < 32 → bit_at (not_of n) i ≡ (bit_at n i + 1) % 2
not_bit n i h = bit_at_xor n 4294967295 i ∙ ap (λ (z : ℕ). (bit_at n i + z) % 2) (bit_at_ones 32 i h)

pub not_word : (n : ℕ) → n < 2 ^ 32 → not_of n < 2 ^ 32
not_word n h = xor_lt 32 n 4294967295 h (lit< tt)

pub not_is : (n : ℕ) → n < 2 ^ 32 → not_of n ≡ 2 ^ 32 - 1 - n
not_is n h = same_from_bits_below 32 (not_of n) (2 ^ 32 - 1 - n) (not_word n h) (omega arith)
    (λ i l. not_bit n i l ∙ turned (bit_at n i) (bit_at-lt n i) ∙ sym (bit_at_not w32 n i h l))
  where
    turned : (b : ℕ) → b < 2 → (b + 1) % 2 ≡ 1 - b
    turned b h = omega arith

pub or_is : (x y : ℕ) → or_of x y ≡ bit_or x y
or_is x y = same_from_bits (or_of x y) (bit_or x y) (λ i.
    simp (bit_at_xor, bit_at_and, bit_at_or) (at_bits (bit_at x i) (bit_at y i) (bit_at-lt x i) (bit_at-lt y i)))
  where
    at_bits : (a b : ℕ) → a < 2 → b < 2 → ((min a b + a) % 2 + b) % 2 ≡ max a b
    at_bits a b h k = omega arith
