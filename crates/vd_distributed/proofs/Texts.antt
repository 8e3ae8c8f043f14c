-- Lines that are read as numbers are these numbers in decimal, and no others.
use Rattle.std.proofs.Common.{◌≡◌, inl, inr, ℕ, ◌+◌, ◌-◌, ◌<◌, ◌^◌, Bool, true, false, ◌&&◌, ◌||◌, not, ◌==◌, nat_lt, if◌then◌else◌, List, [], ◌∷◌, ◌++◌, length, get_or, map, Some, None, codes, refl, sym, ap, ◌∙◌, subst, append_assoc, arith, true≢false}
use Rattle.std.specs.Fmt.{decimal}
use Rattle.std.specs.List.{list_all}
use Rattle.std.proofs.lemmas.Bool.{and_parts, eq-eqb, eqb-true, ltb-true, or_cases}
use Rattle.std.proofs.lemmas.Fmt.{decimal-digits_value, decimal_injective, digits_decimal}
use Rattle.vd_base.specs.Lexical.{decimal_value, is_digit, is_numeral, number_of}
use Rattle.vd_base.specs.Words.{AreWords}
use Rattle.vd_engine.specs.Drives.{lines}
use Rattle.vd_cmd_plan.proofs.Front.{AreDigits, decimal_model, digit_low}
use Rattle.vd_distributed.specs.Children.{text_of_lines}

-- ---- one line

taken : (test : Bool) (v w : ℕ) → (if test then Some v else None) ≡ Some w → (test ≡ true) × (v ≡ w)
taken true v w e = (refl, cc e)
taken false v w e = absurd (cc e)

-- a numeral whose first digit is 0 has no other
alone : (d : ℕ) (ds : List ℕ) → (length ds == 0 || not (d == 48)) ≡ true → d ≡ 48 → length (d ∷ ds) ≡ 1
alone d ds h first =
    elim (or_cases (length ds == 0) (not (d == 48)) h) [
      | inl none ↦ let e = eqb-true (length ds) 0 none in omega (arith, e)
      | inr other ↦ absurd (true≢false (sym other ∙ ap not (eq-eqb d 48 first)))
    ]

record IsNumeralText (line : List ℕ) : Type 0 where
  digits : AreDigits line
  some : 0 < length line
  single : get_or line 0 0 ≡ 48 → length line ≡ 1

numeral_text : (line : List ℕ) → is_numeral line ≡ true → IsNumeralText line
numeral_text [] h = absurd (true≢false (sym h))
numeral_text (d ∷ ds) h =
    let p = and_parts (list_all is_digit (d ∷ ds)) (length ds == 0 || not (d == 48)) h in
    record { digits = p.0; some = omega arith; single = alone d ds p.1 }

-- a line that is read as a number is that number in decimal
number_text : (line : List ℕ) (word : ℕ) → number_of line ≡ Some word → (line ≡ decimal word) × (word < 2 ^ 32)
number_text line word e =
    let t = taken (is_numeral line && nat_lt (decimal_value line) (2 ^ 32)) (decimal_value line) word e in
    let p = and_parts (is_numeral line) (nat_lt (decimal_value line) (2 ^ 32)) t.0 in
    let small : decimal_value line < 2 ^ 32 = ltb-true (decimal_value line) (2 ^ 32) p.1 in
    let text = numeral_text line p.0 in
    let below : decimal_value line < 2 ^ 64 = omega (arith, small) in
    (sym (decimal-digits_value decimal_model line text.digits text.some text.single below) ∙ ap decimal t.1, subst (λ (n : ℕ). n < 2 ^ 32) t.1 small)

-- ---- all lines

-- lines that are read as these numbers are their decimal lines
pub numbers_text : (numbers : List (List ℕ)) (words : List ℕ) → map number_of numbers ≡ map Some words → (text_of_lines numbers ≡ lines words) × AreWords words
numbers_text [] [] e = (refl, tt)
numbers_text [] (word ∷ words) e = absurd (cc e)
numbers_text (line ∷ numbers) [] e = absurd (cc e)
numbers_text (line ∷ numbers) (word ∷ words) e =
    let first : number_of line ≡ Some word = cc e in
    let behind : map number_of numbers ≡ map Some words = cc e in
    let here = number_text line word first in
    let rest = numbers_text numbers words behind in
    ((λ i. (here.0 i ++ codes "\n") ++ rest.0 i), (here.1, rest.1))

-- up to the first line feed two texts are the same
first_line : (a b rest more : List ℕ) → AreDigits a → AreDigits b → a ++ 10 ∷ rest ≡ b ++ 10 ∷ more → (a ≡ b) × (rest ≡ more)
first_line [] [] rest more da db e = (refl, cc e)
first_line [] (y ∷ b) rest more da db e =
    let same : 10 ≡ y = cc e in
    let low = digit_low y (and_parts (is_digit y) (list_all is_digit b) db).0 in
    absurd (omega (arith, same, low))
first_line (x ∷ a) [] rest more da db e =
    let same : x ≡ 10 = cc e in
    let low = digit_low x (and_parts (is_digit x) (list_all is_digit a) da).0 in
    absurd (omega (arith, same, low))
first_line (x ∷ a) (y ∷ b) rest more da db e =
    let same : x ≡ y = cc e in
    let behind : a ++ 10 ∷ rest ≡ b ++ 10 ∷ more = cc e in
    let next = first_line a b rest more (and_parts (is_digit x) (list_all is_digit a) da).1 (and_parts (is_digit y) (list_all is_digit b) db).1 behind in
    ((λ i. same i ∷ next.0 i), next.1)

one_line : (word : ℕ) (words : List ℕ) → lines (word ∷ words) ≡ decimal word ++ 10 ∷ lines words
one_line word words = append_assoc (decimal word) (codes "\n") (lines words)

no_line : (text rest : List ℕ) → [] ≡ text ++ 10 ∷ rest → ⊥
no_line [] rest e = cc e
no_line (x ∷ text) rest e = cc e

decimal_digits : (word : ℕ) → word < 2 ^ 32 → AreDigits (decimal word)
decimal_digits word small = digits_decimal decimal_model word (omega (arith, small))

-- words with the same decimal lines are the same
pub same_words : (xs ys : List ℕ) → AreWords xs → AreWords ys → lines xs ≡ lines ys → xs ≡ ys
same_words [] [] sx sy e = refl
same_words [] (y ∷ ys) sx sy e = absurd (no_line (decimal y) (lines ys) (e ∙ one_line y ys))
same_words (x ∷ xs) [] sx sy e = absurd (no_line (decimal x) (lines xs) (sym e ∙ one_line x xs))
same_words (x ∷ xs) (y ∷ ys) sx sy e =
    let both = first_line (decimal x) (decimal y) (lines xs) (lines ys) (decimal_digits x sx.0) (decimal_digits y sy.0) (sym (one_line x xs) ∙ e ∙ one_line y ys) in
    let first : x ≡ y = decimal_injective x y (let s = sx.0 in omega (arith, s)) (let s = sy.0 in omega (arith, s)) both.0 in
    let rest : xs ≡ ys = same_words xs ys sx.1 sy.1 both.1 in
    λ i. first i ∷ rest i
