-- The bits of words as tests.
use Rattle.std.proofs.Common.{◌≡◌, ℕ, zero, suc, ◌-◌, ◌^◌, ◌<◌, ◌≤◌, Bool, true, false, not, ◌&&◌, ◌||◌, cond, eqb, refl, sym, ap, ◌∙◌, arith, min, max, inl, inr}
use Rattle.std.specs.Prelude.{bit_and, bit_or}
use Rattle.std.specs.Int.{bit_at, bit_not, w64}
use Rattle.std.proofs.lemmas.Nat.Bits.{bit_at_and, bit_at_or, bit_at_not, bit_at-lt, bit_at_cat_low, bit_at_cat_high, same_from_bits_below}
use Rattle.std.proofs.lemmas.Bool.{cases_lt}
use Rattle.std.proofs.Math.Nat.{mul-le-mul_right, pow-suc}
use Rattle.vd_formula.specs.TruthTable.{has, word_where}

both_ones : (x y : ℕ) → x < 2 → y < 2 → eqb (min x y) 1 ≡ (eqb x 1 && eqb y 1)
both_ones zero zero _ _ = refl
both_ones zero (suc zero) _ _ = refl
both_ones (suc zero) zero _ _ = refl
both_ones (suc zero) (suc zero) _ _ = refl
both_ones zero (suc (suc y)) p q = absurd (omega arith)
both_ones (suc zero) (suc (suc y)) p q = absurd (omega arith)
both_ones (suc (suc x)) y p q = absurd (omega arith)

either_one : (x y : ℕ) → x < 2 → y < 2 → eqb (max x y) 1 ≡ (eqb x 1 || eqb y 1)
either_one zero zero _ _ = refl
either_one zero (suc zero) _ _ = refl
either_one (suc zero) zero _ _ = refl
either_one (suc zero) (suc zero) _ _ = refl
either_one zero (suc (suc y)) p q = absurd (omega arith)
either_one (suc zero) (suc (suc y)) p q = absurd (omega arith)
either_one (suc (suc x)) y p q = absurd (omega arith)

other_one : (x : ℕ) → x < 2 → eqb (1 - x) 1 ≡ not (eqb x 1)
other_one zero _ = refl
other_one (suc zero) _ = refl
other_one (suc (suc x)) p = absurd (omega arith)

same_ones : (x y : ℕ) → x < 2 → y < 2 → eqb x 1 ≡ eqb y 1 → x ≡ y
same_ones zero zero _ _ _ = refl
same_ones (suc zero) (suc zero) _ _ _ = refl
same_ones zero (suc zero) _ _ e = cc
same_ones (suc zero) zero _ _ e = cc
same_ones zero (suc (suc y)) p q _ = absurd (omega arith)
same_ones (suc zero) (suc (suc y)) p q _ = absurd (omega arith)
same_ones (suc (suc x)) y p q _ = absurd (omega arith)

pub has-and : (a b i : ℕ) → has (bit_and a b) i ≡ (has a i && has b i)
has-and a b i = ap (λ x. eqb x 1) (bit_at_and a b i) ∙ both_ones _ _ (bit_at-lt a i) (bit_at-lt b i)

pub has-or : (a b i : ℕ) → has (bit_or a b) i ≡ (has a i || has b i)
has-or a b i = ap (λ x. eqb x 1) (bit_at_or a b i) ∙ either_one _ _ (bit_at-lt a i) (bit_at-lt b i)

pub has-not : (a i : ℕ) → a < 2 ^ 64 → i < 64 → has (bit_not w64 a) i ≡ not (has a i)
has-not a i small low = ap (λ x. eqb x 1) (bit_at_not w64 a i small low) ∙ other_one _ (bit_at-lt a i)

-- two words with the same bits are equal
pub same_words : (n a b : ℕ) → a < 2 ^ n → b < 2 ^ n → ((i : ℕ) → i < n → has a i ≡ has b i) → a ≡ b
same_words n a b p q same = same_from_bits_below n a b p q (λ i h. same_ones _ _ (bit_at-lt a i) (bit_at-lt b i) (same i h))

-- bits that tests do not tell apart are equal
pub bit_of_has : (a b i : ℕ) → has a i ≡ has b i → bit_at a i ≡ bit_at b i
bit_of_has a b i same = same_ones _ _ (bit_at-lt a i) (bit_at-lt b i) same

one_or_zero : (b : Bool) → cond b 1 0 ≤ 1
one_or_zero true = omega arith
one_or_zero false = omega arith

lowest_of : (b : Bool) → eqb (bit_at (cond b 1 0) 0) 1 ≡ b
lowest_of true = refl
lowest_of false = refl

-- ---- a word made by a test
pub word_where_lt : (test : ℕ → Bool) (n : ℕ) → word_where test n < 2 ^ n
word_where_lt test zero = omega arith
word_where_lt test (suc n) = omega (arith, word_where_lt test n, mul-le-mul_right (2 ^ n) (one_or_zero (test n)), pow-suc 2 n)

pub has-word_where : (test : ℕ → Bool) (n i : ℕ) → i < n → has (word_where test n) i ≡ test i
has-word_where test zero i h = absurd (omega arith)
has-word_where test (suc n) i h =
    elim (cases_lt i n) [
      | inl below ↦ ap (λ x. eqb x 1) (bit_at_cat_low (cond (test n) 1 0) n (word_where test n) i below) ∙ has-word_where test n i below
      | inr above ↦
          let same : i ≡ n = omega arith in
          let none : i - n ≡ 0 = omega arith in
          ap (λ x. eqb x 1) (bit_at_cat_high (cond (test n) 1 0) n (word_where test n) i (word_where_lt test n) above)
          ∙ ap (λ k. eqb (bit_at (cond (test n) 1 0) k) 1) none ∙ lowest_of (test n) ∙ ap test (sym same)
    ]
