-- Comparisons: by the carry out of a difference, and by a word whose bits are all 1.
use Rattle.std.proofs.Common.{◌≡◌, ℕ, zero, suc, ◌+◌, ◌-◌, ◌/◌, ◌%◌, ◌^◌, ◌<◌, min, Bool, true, false, not, nat_eq, nat_lt, refl, sym, ap, ap₂, ◌∙◌, arith, bit_xor, lit<}
use native.Mathlib.Decide.{dec_lt, ℕ_discrete}
use Rattle.std.specs.Int.{bit_at}
use Rattle.std.proofs.lemmas.Bool.{eq-eqb, ne_eqb}
use Rattle.std.proofs.lemmas.Bool.Decides.{nat_tests}
use Rattle.std.proofs.lemmas.Nat.{and_mask}
use Rattle.std.proofs.lemmas.Nat.Bits.{bit_at_and, bit_at_xor, bit_at-lt, bit_at_lowest, same_from_bits_below}
use Rattle.vd_base.specs.Operations.{truth_word}
use Rattle.vd_backend_sharing.specs.Circuits.{shr, carries, not_of, flip_of, lt_of, le_of, narrowed, all_of, eq_of, ne_of}
use Rattle.vd_backend_sharing.proofs.Bits.{shr_bit, not_bit, not_word, not_is}
use Rattle.vd_backend_sharing.proofs.Carries.{carries_top, carries_word}

pub truth_is_word : (b : Bool) → truth_word b < 2 ^ 32
truth_is_word true = lit< tt
truth_is_word false = lit< tt

flipped : (b : Bool) → flip_of (truth_word b) ≡ truth_word (not b)
flipped true = refl
flipped false = refl

-- ---- order

pub lt_is : (x y : ℕ) → x < 2 ^ 32 → y < 2 ^ 32 → lt_of x y ≡ truth_word (nat_lt x y)
lt_is x y hx hy =
    highest (carries (not_of x) y) (carries_word (not_of x) y (not_word x hx) hy)
    ∙ carries_top (not_of x) y 31 (lit< tt) (not_word x hx) hy
    ∙ ap (λ (z : ℕ). (z + y) / 2 ^ 32) (not_is x hx)
    ∙ beyond x y hx hy
  where
    highest : (c : ℕ) → c < 2 ^ 32 → shr c 31 ≡ bit_at c 31
    highest c h = omega arith

    beyond : (x y : ℕ) → x < 2 ^ 32 → y < 2 ^ 32 → (2 ^ 32 - 1 - x + y) / 2 ^ 32 ≡ truth_word (nat_lt x y)
    beyond x y hx hy = grind (arith, nat_tests)

pub le_is : (x y : ℕ) → x < 2 ^ 32 → y < 2 ^ 32 → le_of x y ≡ truth_word (not (nat_lt y x))
le_is x y hx hy = ap flip_of (lt_is y x hy hx) ∙ flipped (nat_lt y x)

-- ---- equality

-- the lowest n bits are 1
abbrev AreOnes : ℕ → ℕ → Type 0
AreOnes n x = (i : ℕ) → i < n → bit_at x i ≡ 1

narrow_bit : (s x i : ℕ) → bit_at (narrowed s x) i ≡ min (bit_at x i) (bit_at x (s + i))
narrow_bit s x i = bit_at_and x (shr x s) i ∙ ap (λ (z : ℕ). min (bit_at x i) z) (shr_bit x s i)

narrower : (s x : ℕ) → AreOnes (s + s) x → AreOnes s (narrowed s x)
narrower s x h i l =
    let a : bit_at x i ≡ 1 = h i (omega arith) in
    let b : bit_at x (s + i) ≡ 1 = h (s + i) (omega arith) in
    narrow_bit s x i ∙ ap₂ (λ (u v : ℕ). min u v) a b

both : (a b : ℕ) → a < 2 → b < 2 → min a b ≡ 1 → (a ≡ 1) × (b ≡ 1)
both a b h k e = (omega arith, omega arith)

wider : (s x : ℕ) → AreOnes s (narrowed s x) → AreOnes (s + s) x
wider s x h i l = elim (dec_lt i s) [ yes low ↦ (ones i low).0 | no high ↦ upper high ]
  where
    ones : (i : ℕ) → i < s → (bit_at x i ≡ 1) × (bit_at x (s + i) ≡ 1)
    ones i l = both (bit_at x i) (bit_at x (s + i)) (bit_at-lt x i) (bit_at-lt x (s + i)) (sym (narrow_bit s x i) ∙ h i l)

    upper : (i < s → ⊥) → bit_at x i ≡ 1
    upper high =
        let e : s + (i - s) ≡ i = omega arith in
        ap (bit_at x) (sym e) ∙ (ones (i - s) (omega arith)).1

only_lowest : (x : ℕ) → bit_at x 0 ≡ 1 → AreOnes 1 x
only_lowest x h zero l = h
only_lowest x h (suc i) l = absurd (omega arith)

all_from : (x : ℕ) → bit_at (all_of x) 0 ≡ 1 → AreOnes 32 x
unfolding all_of
all_from x h =
    wider 16 x (wider 8 (narrowed 16 x) (wider 4 (narrowed 8 (narrowed 16 x)) (wider 2 (narrowed 4 (narrowed 8 (narrowed 16 x)))
    (wider 1 (narrowed 2 (narrowed 4 (narrowed 8 (narrowed 16 x)))) (only_lowest (narrowed 1 (narrowed 2 (narrowed 4 (narrowed 8 (narrowed 16 x))))) h)))))

from_all : (x : ℕ) → AreOnes 32 x → bit_at (all_of x) 0 ≡ 1
unfolding all_of
from_all x h =
    narrower 1 (narrowed 2 (narrowed 4 (narrowed 8 (narrowed 16 x)))) (narrower 2 (narrowed 4 (narrowed 8 (narrowed 16 x)))
    (narrower 4 (narrowed 8 (narrowed 16 x)) (narrower 8 (narrowed 16 x) (narrower 16 x h)))) 0 (lit< tt)

same_bit : (x y i : ℕ) → i < 32 → bit_at (not_of (bit_xor x y)) i ≡ ((bit_at x i + bit_at y i) % 2 + 1) % 2
same_bit x y i l = not_bit (bit_xor x y) i l ∙ ap (λ (z : ℕ). (z + 1) % 2) (bit_at_xor x y i)

ones_from_same : (x y : ℕ) → x ≡ y → AreOnes 32 (not_of (bit_xor x y))
ones_from_same x y e i l = same_bit x y i l ∙ ap (λ (z : ℕ). ((z + bit_at y i) % 2 + 1) % 2) (ap (λ (z : ℕ). bit_at z i) e) ∙ twice (bit_at y i)
  where
    twice : (b : ℕ) → ((b + b) % 2 + 1) % 2 ≡ 1
    twice b = omega arith

same_from_ones : (x y : ℕ) → x < 2 ^ 32 → y < 2 ^ 32 → AreOnes 32 (not_of (bit_xor x y)) → x ≡ y
same_from_ones x y hx hy h = same_from_bits_below 32 x y hx hy (λ i l. alike (bit_at x i) (bit_at y i) (bit_at-lt x i) (bit_at-lt y i) (sym (same_bit x y i l) ∙ h i l))
  where
    alike : (a b : ℕ) → a < 2 → b < 2 → ((a + b) % 2 + 1) % 2 ≡ 1 → a ≡ b
    alike a b h k e = omega arith

told : (b x y : ℕ) → b < 2 → (b ≡ 1 → x ≡ y) → (x ≡ y → b ≡ 1) → b ≡ truth_word (nat_eq x y)
told b x y h only if_same = elim (ℕ_discrete x y) [
  | yes e ↦ if_same e ∙ sym (ap truth_word (eq-eqb x y e))
  | no n ↦ other b h (λ e. n (only e)) ∙ sym (ap truth_word (ne_eqb x y n))
]
  where
    other : (b : ℕ) → b < 2 → (b ≡ 1 → ⊥) → b ≡ 0
    other b h n = omega arith

pub eq_is : (x y : ℕ) → x < 2 ^ 32 → y < 2 ^ 32 → eq_of x y ≡ truth_word (nat_eq x y)
eq_is x y hx hy =
    let z : ℕ = not_of (bit_xor x y) in
    and_mask (all_of z) 1 ∙ sym (bit_at_lowest (all_of z))
    ∙ told (bit_at (all_of z) 0) x y (bit_at-lt (all_of z) 0) (λ e. same_from_ones x y hx hy (all_from z e)) (λ e. from_all z (ones_from_same x y e))

pub ne_is : (x y : ℕ) → x < 2 ^ 32 → y < 2 ^ 32 → ne_of x y ≡ truth_word (not (nat_eq x y))
ne_is x y hx hy = ap flip_of (eq_is x y hx hy) ∙ flipped (nat_eq x y)
