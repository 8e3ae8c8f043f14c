-- The words of a line that is put together of words.
use Rattle.std.proofs.Common.{◌≡◌, inl, inr, ℕ, zero, suc, ◌+◌, ◌-◌, ◌*◌, ◌<◌, ◌≤◌, ◌^◌, Bool, true, false, ◌&&◌, ◌||◌, not, ◌==◌, nat_le, if◌then◌else◌, List, [], ◌∷◌, ◌++◌, length, map, get_or, codes, refl, sym, ap, ◌∙◌, subst, append-nil, append_assoc, arith, true≢false}
use Rattle.std.specs.Fmt.{decimal}
use Rattle.std.specs.List.{fold, flat_map, list_all}
use Rattle.std.proofs.lemmas.Bool.{and_from, and_parts, eq-eqb, eqb-true, le-leb, leb-true, ne_eqb, or_cases, or_left, or_right}
use Rattle.std.proofs.lemmas.Fmt.{decimal_nonempty, digits_decimal, digits_value-decimal, first_decimal, length-decimal-le}
use Rattle.std.proofs.lemmas.Str.Parse.{FoldsDigits, IsDigitsTest, IsNumeralModel, numerals_by_fold}
use Rattle.vd_base.specs.Lexical.{decimal_value, is_digit, is_letter, is_name, is_numeral, is_space, is_word_byte, is_keyword}
use Rattle.vd_base.specs.Words.{AreWords}
use Rattle.vd_report.specs.Lines.{number_field, words_line}
use Rattle.vd_report.specs.LineWords.{is_inside, line_words, with_word, words_from}

-- ---- words

-- bytes of which none parts words
abbrev pub IsSolid : List ℕ → Type 0
IsSolid word = list_all is_inside word ≡ true

-- a word, and no empty one
abbrev pub IsText : List ℕ → Type 0
IsText word = IsSolid word × (0 < length word)

inside : (b : ℕ) (bytes begun : List ℕ) (space : Bool) → is_space b ≡ space → not space ≡ true → words_from begun (b ∷ bytes) ≡ words_from (begun ++ b ∷ []) bytes
inside b bytes begun false e other = ap (λ t. if t then with_word begun (words_from [] bytes) else words_from (begun ++ b ∷ []) bytes) e
inside b bytes begun true e other = absurd (true≢false (sym other))

taken : (word begun rest : List ℕ) → IsSolid word → words_from begun (word ++ rest) ≡ words_from (begun ++ word) rest
taken [] begun rest solid = ap (λ (w : List ℕ). words_from w rest) (sym (append-nil begun))
taken (b ∷ word) begun rest solid =
    let p = and_parts (is_inside b) (list_all is_inside word) solid in
    inside b (word ++ rest) begun (is_space b) refl p.0 ∙ taken word (begun ++ b ∷ []) rest p.1 ∙ ap (λ (w : List ℕ). words_from w rest) (append_assoc begun (b ∷ []) word)

some_word : (word : List ℕ) (words : List (List ℕ)) → 0 < length word → with_word word words ≡ word ∷ words
some_word [] words some = absurd (omega arith)
some_word (b ∷ word) words some = refl

-- Whole words: behind a space the words go on, and at the end of the line they are all.
pub record AreRead (text : List ℕ) (words : List (List ℕ)) : Type 0 where
  pub on : (rest : List ℕ) → line_words (text ++ 32 ∷ rest) ≡ words ++ line_words rest
  pub end : line_words (text ++ 10 ∷ []) ≡ words

pub one_read : (word : List ℕ) → IsText word → AreRead word (word ∷ [])
one_read word text = record {
  on = λ rest. taken word [] (32 ∷ rest) text.0 ∙ some_word word (line_words rest) text.1;
  end = taken word [] (10 ∷ []) text.0 ∙ some_word word [] text.1;
}

-- words, a space, and words
pub both_read : (text more : List ℕ) (words others : List (List ℕ)) → AreRead text words → AreRead more others → AreRead (text ++ 32 ∷ more) (words ++ others)
both_read text more words others first second = record {
  on = λ rest.
      ap line_words (append_assoc text (32 ∷ more) (32 ∷ rest)) ∙ first.on (more ++ 32 ∷ rest) ∙ ap (λ (ws : List (List ℕ)). words ++ ws) (second.on rest)
      ∙ sym (append_assoc words others (line_words rest));
  end = ap line_words (append_assoc text (32 ∷ more) (10 ∷ [])) ∙ first.on (more ++ 10 ∷ []) ∙ ap (λ (ws : List (List ℕ)). words ++ ws) second.end;
}

-- words, a space, and a word
pub word_read : (text word : List ℕ) (words : List (List ℕ)) → AreRead text words → IsText word → AreRead (text ++ 32 ∷ word) (words ++ word ∷ [])
word_read text word words first is = both_read text word words (word ∷ []) first (one_read word is)

-- ---- names and numbers

is_other : (b k : ℕ) → (b == k) ≡ true → is_word_byte k ≡ false → is_word_byte b ≡ false
is_other b k same other = ap is_word_byte (eqb-true b k same) ∙ other

space_is_other : (b : ℕ) → is_space b ≡ true → is_word_byte b ≡ false
space_is_other b is =
    elim (or_cases (b == 32) (b == 9 || (b == 13 || b == 10)) is) [
      | inl same ↦ is_other b 32 same refl
      | inr more ↦ elim (or_cases (b == 9) (b == 13 || b == 10) more) [
        | inl same ↦ is_other b 9 same refl
        | inr last ↦ elim (or_cases (b == 13) (b == 10) last) [
          | inl same ↦ is_other b 13 same refl
          | inr same ↦ is_other b 10 same refl
        ]
      ]
    ]

word_byte_inside : (b : ℕ) → is_word_byte b ≡ true → (space : Bool) → is_space b ≡ space → not space ≡ true
word_byte_inside b is false e = refl
word_byte_inside b is true e = absurd (true≢false (sym is ∙ space_is_other b e))

word_bytes : (word : List ℕ) → list_all is_word_byte word ≡ true → IsSolid word
word_bytes [] is = refl
word_bytes (b ∷ word) is =
    let p = and_parts (is_word_byte b) (list_all is_word_byte word) is in
    and_from (is_inside b) (list_all is_inside word) (word_byte_inside b p.0 (is_space b) refl) (word_bytes word p.1)

pub name_bytes : (name : List ℕ) → is_name name ≡ true → list_all is_word_byte name ≡ true
name_bytes [] is = absurd (true≢false (sym is))
name_bytes (b ∷ bs) is =
    let p = and_parts (is_letter b && list_all is_word_byte bs) (not (is_keyword (b ∷ bs))) is in
    let q = and_parts (is_letter b) (list_all is_word_byte bs) p.0 in
    and_from (is_word_byte b) (list_all is_word_byte bs) (or_left (is_letter b) (is_digit b) q.0) q.1

some_name : (name : List ℕ) → is_name name ≡ true → 0 < length name
some_name [] is = absurd (true≢false (sym is))
some_name (b ∷ bs) is = omega arith

-- a name is one word
pub name_text : (name : List ℕ) → is_name name ≡ true → IsText name
name_text name is = (word_bytes name (name_bytes name is), some_name name is)

digits_solid : (digits : List ℕ) → list_all is_digit digits ≡ true → list_all is_word_byte digits ≡ true
digits_solid [] is = refl
digits_solid (d ∷ digits) is =
    let p = and_parts (is_digit d) (list_all is_digit digits) is in
    and_from (is_word_byte d) (list_all is_word_byte digits) (or_right (is_letter d) (is_digit d) p.0) (digits_solid digits p.1)

abbrev AreDigits : List ℕ → Type 0
AreDigits text = list_all is_digit text ≡ true

digit_low : (d : ℕ) → is_digit d ≡ true → 48 ≤ d
digit_low d h = leb-true 48 d (and_parts (nat_le 48 d) (nat_le d 57) h).0

digit_high : (d : ℕ) → is_digit d ≡ true → d ≤ 57
digit_high d h = leb-true d 57 (and_parts (nat_le 48 d) (nat_le d 57) h).1

digit_in : (d : ℕ) → 48 ≤ d → d ≤ 57 → is_digit d ≡ true
digit_in d low high = and_from (nat_le 48 d) (nat_le d 57) (le-leb 48 d low) (le-leb d 57 high)

tests : IsDigitsTest AreDigits
tests = record {
  empty = refl;
  parts = λ c cs h. let p = and_parts (is_digit c) (list_all is_digit cs) h in ((digit_low c p.0, digit_high c p.0), p.1);
  more = λ c cs range h. and_from (is_digit c) (list_all is_digit cs) (digit_in c range.0 range.1) h;
}

abbrev value_from : ℕ → List ℕ → ℕ
value_from n digits = fold (λ m d. m * 10 + (d - 48)) n digits

folds : FoldsDigits value_from
folds = record { empty = λ n. refl; more = λ n c cs range. refl }

own : IsNumeralModel AreDigits (value_from 0)
own = numerals_by_fold AreDigits tests value_from folds

-- a number is one word, and is read as itself
pub number_text : (n : ℕ) → n < 2 ^ 64 → IsText (decimal n)
number_text n small = (word_bytes (decimal n) (digits_solid (decimal n) (digits_decimal own n small)), decimal_nonempty n small)

pub number_value : (n : ℕ) → n < 2 ^ 64 → decimal_value (decimal n) ≡ n
number_value n small = digits_value-decimal own n small

single : (n : ℕ) (text : List ℕ) → text ≡ decimal n → n < 2 ^ 64 → AreDigits text → 0 < length text → is_numeral text ≡ true
single n [] is small digits some = absurd (omega arith)
single zero (d ∷ ds) is small digits some =
    let short : length (d ∷ ds) ≤ 1 = subst (λ (text : List ℕ). length text ≤ 1) (sym is) (length-decimal-le 1 0 (omega arith) (omega arith) small) in
    and_from (list_all is_digit (d ∷ ds)) (length ds == 0 || not (d == 48)) digits (or_left (length ds == 0) (not (d == 48)) (eq-eqb (length ds) 0 (omega (arith, short))))
single (suc n) (d ∷ ds) is small digits some =
    let first : 48 < d = subst (λ (text : List ℕ). 48 < get_or text 0 0) (sym is) (first_decimal (suc n) (omega arith) small) in
    and_from (list_all is_digit (d ∷ ds)) (length ds == 0 || not (d == 48)) digits
    (or_right (length ds == 0) (not (d == 48)) (ap not (ne_eqb d 48 (λ same. omega (arith, first, same)))))

pub number_numeral : (n : ℕ) → n < 2 ^ 64 → is_numeral (decimal n) ≡ true
number_numeral n small = single n (decimal n) refl small (digits_decimal own n small) (decimal_nonempty n small)

-- ---- numbers behind words

pub numbers_read : (text : List ℕ) (words : List (List ℕ)) (numbers : List ℕ) → AreRead text words → AreWords numbers
    → AreRead (text ++ flat_map number_field numbers) (words ++ map decimal numbers)
numbers_read text words [] first are =
    subst (λ (t : List ℕ). AreRead t (words ++ [])) (sym (append-nil text)) (subst (λ (ws : List (List ℕ)). AreRead text ws) (sym (append-nil words)) first)
numbers_read text words (n ∷ numbers) first are =
    let small : n < 2 ^ 64 = (let low = are.0 in omega (arith, low)) in
    let next = numbers_read (text ++ number_field n) (words ++ decimal n ∷ []) numbers (word_read text (decimal n) words first (number_text n small)) are.1 in
    subst (λ (t : List ℕ). AreRead t (words ++ decimal n ∷ map decimal numbers)) (append_assoc text (number_field n) (flat_map number_field numbers))
    (subst (λ (ws : List (List ℕ)). AreRead (text ++ number_field n ++ flat_map number_field numbers) ws) (append_assoc words (decimal n ∷ []) (map decimal numbers)) next)

pub words_line_words : (head words : List ℕ) → IsText head → AreWords words → length words < 2 ^ 64
    → line_words (words_line head words) ≡ head ∷ decimal (length words) ∷ map decimal words
words_line_words head words text are few =
    (numbers_read (head ++ number_field (length words)) (head ∷ decimal (length words) ∷ []) words
    (word_read head (decimal (length words)) (head ∷ []) (one_read head text) (number_text (length words) few)) are).end
