-- Whether a numeral is a number of 64 bits.
use Rattle.std.proofs.Common.{◌≡◌, ℕ, ◌<◌, ◌≤◌, ◌^◌, Bool, true, false, List, refl, sym, ap, ◌∙◌, arith, Some, None, nat_lt, if◌then◌else◌}
use Rattle.std.proofs.lemmas.Bool.Decides.{nat_tests}
use Rattle.vd_base.specs.Lexical.{is_numeral, decimal_value}
use Rattle.vd_cmd.specs.Numbers.{value_below}

module _ (text : List ℕ) (numeral : true ≡ is_numeral text) where
  chosen : (t : Bool) → nat_lt (decimal_value text) (2 ^ 64) ≡ t → (if t then Some (decimal_value text) else None) ≡ value_below (2 ^ 64) text
  chosen t e = sym (rw (← numeral, e) refl)

  pub number_is : (n : ℕ) → n ≡ decimal_value text → n < 2 ^ 64 → Some n ≡ value_below (2 ^ 64) text
  number_is n is fits = ap Some is ∙ chosen true (grind (arith, nat_tests))

  pub number_none : 2 ^ 64 ≤ decimal_value text → None ≡ value_below (2 ^ 64) text
  number_none large = chosen false (grind (arith, nat_tests))
