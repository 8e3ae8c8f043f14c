-- How many rows of so many words a section may have.
use Rattle.std.proofs.Common.{◌≡◌, ℕ, zero, suc, ◌*◌, ◌/◌, ◌<◌, ◌≤◌, Bool, true, false, nat_le, refl, sym, ◌∙◌, arith, subst, true≢false}
use Rattle.std.proofs.lemmas.Bool.{le-leb, leb-false, leb-true}
use Rattle.std.proofs.lemmas.Nat.{div_below, le-div}
use Rattle.vd_base.specs.Limits.{most_input_words}

no_words : (rows columns most : ℕ) → columns ≡ 0 → nat_le (rows * columns) most ≡ true
no_words rows columns most none =
    subst (λ (n : ℕ). nat_le (rows * n) most ≡ true) (sym none) (le-leb (rows * 0) most (omega arith))

pub none_fit : (rows columns : ℕ) → columns ≡ 0 → true ≡ nat_le (rows * columns) most_input_words
none_fit rows columns none = sym (no_words rows columns most_input_words none)

module _ (rows columns most : ℕ) (some : 0 < columns) where
  by_tests : (less fits : Bool) → nat_le rows (most / columns) ≡ less → nat_le (rows * columns) most ≡ fits → less ≡ fits
  by_tests true true a b = refl
  by_tests false false a b = refl
  by_tests true false a b =
      let le = leb-true rows (most / columns) a in
      let above = div_below most columns rows some (leb-false (rows * columns) most b) in
      absurd (omega (arith, le, above))
  by_tests false true a b =
      let le = le-div rows most columns some (leb-true (rows * columns) most b) in
      let above = leb-false rows (most / columns) a in
      absurd (omega (arith, le, above))

  same_test : nat_le rows (most / columns) ≡ nat_le (rows * columns) most
  same_test = by_tests (nat_le rows (most / columns)) (nat_le (rows * columns) most) refl refl

pub some_fit : (rows columns : ℕ) → 0 < columns → nat_le rows (most_input_words / columns) ≡ nat_le (rows * columns) most_input_words
some_fit rows columns some = same_test rows columns most_input_words some

pub some_columns : (rows columns : ℕ) → nat_le (rows * columns) most_input_words ≡ false → 0 < columns
some_columns rows zero above = absurd (true≢false (sym (no_words rows 0 most_input_words refl) ∙ above))
some_columns rows (suc columns) above = omega arith
