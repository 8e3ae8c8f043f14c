-- Texts by their first byte, and the value of digits from the left.
use Rattle.std.proofs.Common.{◌≡◌, ℕ, ◌+◌, ◌*◌, ◌-◌, ◌<◌, ◌≤◌, ◌^◌, Bool, true, false, ◌&&◌, ◌||◌, not, ◌==◌, List, [], ◌∷◌, length, drop, get_or, refl, ap, sym, ◌∙◌, arith, drop-cons, add-one, Some, None, nat_lt, if◌then◌else◌}
use Rattle.std.specs.List.{fold, list_all}
use Rattle.std.proofs.lemmas.Bool.Decides.{nat_tests}
use Rattle.vd_base.specs.Lexical.{is_digit, is_letter, is_word_byte, is_keyword, is_name, is_numeral, decimal_value, number_of}

pub name_at : (xs : List ℕ) → 0 < length xs → is_name xs ≡ (is_letter (get_or xs 0 0) && list_all is_word_byte (drop 1 xs) && not (is_keyword xs))
name_at [] h = absurd (omega arith)
name_at (x ∷ xs) h = refl

pub numeral_at : (xs : List ℕ) → 0 < length xs → is_numeral xs ≡ (list_all is_digit xs && (length (drop 1 xs) == 0 || not (get_or xs 0 0 == 48)))
numeral_at [] h = absurd (omega arith)
numeral_at (x ∷ xs) h = refl

abbrev more : ℕ → ℕ → ℕ
more n d = n * 10 + (d - 48)

-- a value only grows by further digits
pub fold_ge : (n : ℕ) (ds : List ℕ) → n ≤ fold more n ds
fold_ge n [] = omega arith
fold_ge n (d ∷ ds) = omega (arith, fold_ge (n * 10 + (d - 48)) ds)

pub value_more : (ds : List ℕ) (n i : ℕ) → i < length ds → fold more n (drop i ds) ≡ fold more (more n (get_or ds i 0)) (drop (i + 1) ds)
value_more ds n i h = let front : drop i ds ≡ get_or ds i 0 ∷ drop (i + 1) ds = rw add-one (drop-cons ds i 0 h) in ap (fold more n) front

-- whether a numeral is a number of 32 bits
module _ (text : List ℕ) (numeral : true ≡ is_numeral text) where
  chosen : (t : Bool) → nat_lt (decimal_value text) (2 ^ 32) ≡ t → (if t then Some (decimal_value text) else None) ≡ number_of text
  chosen t e = sym (rw (← numeral, e) refl)

  pub number_is : (n : ℕ) → n ≡ decimal_value text → n < 2 ^ 32 → Some n ≡ number_of text
  number_is n is fits = ap Some is ∙ chosen true (grind (arith, nat_tests))

  pub number_none : 2 ^ 32 ≤ decimal_value text → None ≡ number_of text
  number_none large = chosen false (grind (arith, nat_tests))
