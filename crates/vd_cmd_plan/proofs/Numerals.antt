-- Digits in decimal, as the lemmas on numerals of std take them.
use Rattle.std.proofs.Common.{◌≡◌, ℕ, ◌+◌, ◌-◌, ◌*◌, ◌≤◌, true, nat_le, List, refl, arith}
use Rattle.std.specs.List.{fold, list_all}
use Rattle.std.proofs.lemmas.Bool.{and_from, and_parts, le-leb, leb-true}
use Rattle.std.proofs.lemmas.Str.Parse.{FoldsDigits, IsDigitsTest, IsNumeralModel, numerals_by_fold}
use Rattle.vd_base.specs.Lexical.{is_digit}

pub digit_low : (d : ℕ) → is_digit d ≡ true → 48 ≤ d
digit_low d h = leb-true 48 d (and_parts (nat_le 48 d) (nat_le d 57) h).0

pub digit_high : (d : ℕ) → is_digit d ≡ true → d ≤ 57
digit_high d h = leb-true d 57 (and_parts (nat_le 48 d) (nat_le d 57) h).1

pub digit_in : (d : ℕ) → 48 ≤ d → d ≤ 57 → is_digit d ≡ true
digit_in d low high = and_from (nat_le 48 d) (nat_le d 57) (le-leb 48 d low) (le-leb d 57 high)

abbrev pub AreDigits : List ℕ → Type 0
AreDigits text = list_all is_digit text ≡ true

tests : IsDigitsTest AreDigits
tests = record {
  empty = refl;
  parts = λ c cs h. let p = and_parts (is_digit c) (list_all is_digit cs) h in ((digit_low c p.0, digit_high c p.0), p.1);
  more = λ c cs range h. and_from (is_digit c) (list_all is_digit cs) (digit_in c range.0 range.1) h;
}

abbrev pub value_from : ℕ → List ℕ → ℕ
value_from n digits = fold (λ m d. m * 10 + (d - 48)) n digits

folds : FoldsDigits value_from
folds = record { empty = λ n. refl; more = λ n c cs range. refl }

pub decimal_model : IsNumeralModel AreDigits (value_from 0)
decimal_model = numerals_by_fold AreDigits tests value_from folds
