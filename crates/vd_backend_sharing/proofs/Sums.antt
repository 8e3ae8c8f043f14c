-- Sums and differences.
use Rattle.std.proofs.Common.{◌≡◌, ℕ, zero, suc, ◌+◌, ◌-◌, ◌%◌, ◌^◌, ◌<◌, ◌≤◌, sym, ap, ap₂, ◌∙◌, arith, bit_xor, lit<, add-zero}
use Rattle.std.specs.Int.{bit_at}
use Rattle.std.proofs.Math.Nat.{mod-lt}
use Rattle.std.proofs.lemmas.Nat.{xor_lt}
use Rattle.std.proofs.lemmas.Nat.Bits.{bit_at_xor, same_from_bits_below}
use Rattle.vd_backend_sharing.specs.Circuits.{shl, carries, not_of, add_of, sub_of}
use Rattle.vd_backend_sharing.proofs.Bits.{bit_of_word, shl_low, shl_high, not_word, not_is}
use Rattle.vd_backend_sharing.proofs.Carries.{carry, sum_bit, carries_bit}

pub add_word : (x y : ℕ) → x < 2 ^ 32 → y < 2 ^ 32 → add_of x y < 2 ^ 32
add_word x y hx hy = xor_lt 32 (bit_xor x y) (shl (carries x y) 1) (xor_lt 32 x y hx hy) (mod-lt _ (lit< tt))

-- the carry into each bit
carry_in : (x y i : ℕ) → i < 32 → bit_at (shl (carries x y) 1) i ≡ carry x y 0 i
carry_in x y zero h = shl_low (carries x y) 1 0 (lit< tt) (lit< tt)
carry_in x y (suc i) h =
    let k : i < 32 = omega arith in
    let one : 1 ≤ suc i = omega arith in
    let q : suc i - 1 ≡ i = omega arith in
    shl_high (carries x y) 1 (suc i) h one ∙ ap (λ (z : ℕ). bit_at (carries x y) z) q ∙ carries_bit x y i k

pub add_is : (x y : ℕ) → x < 2 ^ 32 → y < 2 ^ 32 → add_of x y ≡ (x + y) % 2 ^ 32
add_is x y hx hy = same_from_bits_below 32 (add_of x y) ((x + y) % 2 ^ 32) (add_word x y hx hy) (mod-lt _ (lit< tt)) (λ i h.
    bit_at_xor (bit_xor x y) (shl (carries x y) 1) i ∙ ap₂ (λ (a b : ℕ). (a + b) % 2) (bit_at_xor x y i) (carry_in x y i h)
    ∙ sym (bit_of_word (x + y) i h ∙ ap (λ (z : ℕ). bit_at z i) (sym (add-zero (x + y))) ∙ sum_bit i x y 0 (lit< tt)))

pub sub_word : (x y : ℕ) → x < 2 ^ 32 → y < 2 ^ 32 → sub_of x y < 2 ^ 32
sub_word x y hx hy = not_word (add_of (not_of x) y) (add_word (not_of x) y (not_word x hx) hy)

pub sub_is : (x y : ℕ) → x < 2 ^ 32 → y < 2 ^ 32 → sub_of x y ≡ (x + (2 ^ 32 - y)) % 2 ^ 32
sub_is x y hx hy =
    not_is (add_of (not_of x) y) (add_word (not_of x) y (not_word x hx) hy)
    ∙ ap (λ (z : ℕ). 2 ^ 32 - 1 - z) (add_is (not_of x) y (not_word x hx) hy ∙ ap (λ (z : ℕ). (z + y) % 2 ^ 32) (not_is x hx))
    ∙ turned x y hx hy
  where
    turned : (x y : ℕ) → x < 2 ^ 32 → y < 2 ^ 32 → 2 ^ 32 - 1 - (2 ^ 32 - 1 - x + y) % 2 ^ 32 ≡ (x + (2 ^ 32 - y)) % 2 ^ 32
    turned x y hx hy = omega arith
