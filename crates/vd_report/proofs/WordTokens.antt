-- The tokens of names and numbers that stand before other bytes.
use Rattle.std.proofs.Common.{◌≡◌, ℕ, zero, suc, ◌+◌, ◌-◌, ◌<◌, ◌≤◌, ◌^◌, Bool, true, false, cond, ◌&&◌, ◌||◌, not, ◌==◌, nat_le, nat_lt, if◌then◌else◌, List, [], ◌∷◌, ◌++◌, length, take, Some, None, codes, refl, sym, ap, ◌∙◌, subst, arith, true≢false}
use Rattle.std.specs.Fmt.{decimal}
use Rattle.std.specs.List.{list_all, prefix_len, take_while}
use Rattle.std.specs.Str.{bytes_eq}
use Rattle.std.proofs.lemmas.Bool.{and_from, and_parts, leb-true, lt-leb, lt-ltb, ne_eqb}
use Rattle.std.proofs.lemmas.Slice.Eq.{bytes_eq-Decides}
use Rattle.std.proofs.Math.Seq.{take-append_seam}
use Rattle.vd_base.specs.Lexical.{decimal_value, is_digit, is_keyword, is_letter, is_name, is_numeral, is_space, is_word_byte, keywords, number_of}
use Rattle.vd_report.specs.declared.token.TokenKind.TheVariants as kind
use Rattle.vd_report.specs.declared.token.Token.{Token}
use Rattle.vd_report.specs.LineWords.{is_inside}
use Rattle.vd_report.specs.Tokens.{number_kind, token_kind, token_len, token_of, tokens_from, word_kind}
use Rattle.vd_report.proofs.LineWords.{IsText, number_numeral, number_text, number_value}

-- ---- bytes that pass a test, before others

module _ (p : ℕ → Bool) where
  run_len : (xs ys : List ℕ) → list_all p xs ≡ true → prefix_len p (xs ++ ys) ≡ length xs + prefix_len p ys
  run_len [] ys all = omega arith
  run_len (x ∷ xs) ys all =
      let both = and_parts (p x) (list_all p xs) all in
      let rest : prefix_len p (xs ++ ys) ≡ length xs + prefix_len p ys = run_len xs ys both.1 in
      ap (λ (b : Bool). cond b (1 + prefix_len p (xs ++ ys)) 0) both.0 ∙ omega (arith, rest)

  run_of : (xs ys : List ℕ) → list_all p xs ≡ true → prefix_len p ys ≡ 0 → prefix_len p (xs ++ ys) ≡ length xs
  run_of xs ys all stops = let whole = run_len xs ys all in omega (arith, whole, stops)

  run_is : (xs ys : List ℕ) → list_all p xs ≡ true → prefix_len p ys ≡ 0 → take_while p (xs ++ ys) ≡ xs
  run_is xs ys all stops = ap (λ (n : ℕ). take n (xs ++ ys)) (run_of xs ys all stops) ∙ take-append_seam xs ys

-- ---- the tokens behind a word

skipped : (n : ℕ) (xs rest : List ℕ) (at : ℕ) → length xs ≡ n → tokens_from at n (xs ++ rest) ≡ tokens_from (at + n) 0 rest
unfolding tokens_from
skipped zero [] rest at is = let same : at ≡ at + 0 = omega arith in ap (λ (i : ℕ). tokens_from i 0 rest) same
skipped zero (x ∷ xs) rest at is = absurd (omega (arith, is))
skipped (suc n) [] rest at is = absurd (omega (arith, is))
skipped (suc n) (x ∷ xs) rest at is =
    let places : at + 1 + n ≡ at + suc n = omega arith in
    skipped n xs rest (at + 1) (omega (arith, is)) ∙ ap (λ (i : ℕ). tokens_from i 0 rest) places

no_space : (space : Bool) → not space ≡ true → space ≡ false
no_space false is = refl
no_space true is = absurd (true≢false (sym is))

here : (at b : ℕ) (bs : List ℕ) → is_space b ≡ false → tokens_from at 0 (b ∷ bs) ≡ token_of at (b ∷ bs) ∷ tokens_from (at + 1) (token_len (b ∷ bs) - 1) bs
unfolding tokens_from
here at b bs is = ap (λ (t : Bool). if t then tokens_from (at + 1) 0 bs else (token_of at (b ∷ bs) ∷ tokens_from (at + 1) (token_len (b ∷ bs) - 1) bs)) is

pub word_token : (word rest : List ℕ) (at : ℕ) → IsText word → token_len (word ++ rest) ≡ length word
    → tokens_from at 0 (word ++ rest) ≡ token_of at (word ++ rest) ∷ tokens_from (at + length word) 0 rest
word_token [] rest at text len = let some = text.1 in absurd (omega (arith, some))
word_token (b ∷ bs) rest at text len =
    let inside = and_parts (is_inside b) (list_all is_inside bs) text.0 in
    let behind : token_len (b ∷ (bs ++ rest)) - 1 ≡ length bs = omega (arith, len) in
    let places : at + 1 + length bs ≡ at + length (b ∷ bs) = omega arith in
    here at b (bs ++ rest) (no_space (is_space b) inside.0)
    ∙ ap (λ (ts : List Token). token_of at (b ∷ (bs ++ rest)) ∷ ts)
    (ap (λ (n : ℕ). tokens_from (at + 1) n (bs ++ rest)) behind ∙ skipped (length bs) bs rest (at + 1) refl ∙ ap (λ (i : ℕ). tokens_from i 0 rest) places)

-- ---- names

not_all : (word : List ℕ) → is_keyword word ≡ false → bytes_eq word (codes "all") ≡ false
unfolding keywords
not_all word other = by (bytes_eq word (codes "all")) refl
  where
    by : (t : Bool) → bytes_eq word (codes "all") ≡ t → t ≡ false
    by false is = refl
    by true is =
        let same : word ≡ codes "all" = (bytes_eq-Decides word (codes "all")).0 is in
        absurd (true≢false (subst (λ (w : List ℕ). true ≡ is_keyword w) (sym same) refl ∙ other))

name_kind_is : (word : List ℕ) → is_keyword word ≡ false → word_kind word ≡ kind.Name
name_kind_is word other =
    ap (λ (t : Bool). if t then kind.All else (if is_keyword word then kind.Other else kind.Name)) (not_all word other)
    ∙ ap (λ (t : Bool). if t then kind.Other else kind.Name) other

-- what a name at the front of a text is
pub record IsNameToken (name rest : List ℕ) : Type 0 where
  pub len : token_len (name ++ rest) ≡ length name
  pub kind_is : token_kind (name ++ rest) ≡ kind.Name

pub name_token : (name rest : List ℕ) → is_name name ≡ true → prefix_len is_word_byte rest ≡ 0 → IsNameToken name rest
name_token [] rest is stops = absurd (true≢false (sym is))
name_token (b ∷ bs) rest is stops =
    let parts = and_parts (is_letter b && list_all is_word_byte bs) (not (is_keyword (b ∷ bs))) is in
    let bytes = and_parts (is_letter b) (list_all is_word_byte bs) parts.0 in
    let all : list_all is_word_byte (b ∷ bs) ≡ true = and_from (is_word_byte b) (list_all is_word_byte bs) (ap (λ (t : Bool). t || is_digit b) bytes.0) bytes.1 in
    let text = b ∷ (bs ++ rest) in
    record {
      len = ap (λ (t : Bool). if t then prefix_len is_word_byte text else (if is_digit b then prefix_len is_digit text else 1)) bytes.0
          ∙ run_of is_word_byte (b ∷ bs) rest all stops;
      kind_is =
          ap (λ (t : Bool). if t then word_kind (take_while is_word_byte text) else (if is_digit b then number_kind (number_of (take_while is_digit text)) else (if b == 58 then kind.Colon else kind.Other))) bytes.0
          ∙ ap word_kind (run_is is_word_byte (b ∷ bs) rest all stops)
          ∙ name_kind_is (b ∷ bs) (no_space (is_keyword (b ∷ bs)) parts.1);
    }

-- ---- numbers

digit_no_letter : (d : ℕ) → is_digit d ≡ true → is_letter d ≡ false
digit_no_letter d is =
    let most : d ≤ 57 = leb-true d 57 (and_parts (nat_le 48 d) (nat_le d 57) is).1 in
    let small = lt-leb 97 d (omega (arith, most)) in
    let large = lt-leb 65 d (omega (arith, most)) in
    let other = ne_eqb d 95 (λ same. omega (arith, most, same)) in
    (λ i. (small i && nat_le d 122) || ((large i && nat_le d 90) || other i))

number_read : (n : ℕ) → n < 2 ^ 32 → number_of (decimal n) ≡ Some n
number_read n small =
    let whole : n < 2 ^ 64 = omega (arith, small) in
    let value = number_value n whole in
    let few : decimal_value (decimal n) < 2 ^ 32 = subst (λ (v : ℕ). v < 2 ^ 32) (sym value) small in
    ap (λ (t : Bool). if t then Some (decimal_value (decimal n)) else None)
    (and_from (is_numeral (decimal n)) (nat_lt (decimal_value (decimal n)) (2 ^ 32)) (number_numeral n whole) (lt-ltb (decimal_value (decimal n)) (2 ^ 32) few))
    ∙ ap (λ (v : ℕ). Some v) value

numeral_digits : (text : List ℕ) → is_numeral text ≡ true → list_all is_digit text ≡ true
numeral_digits [] is = absurd (true≢false (sym is))
numeral_digits (d ∷ ds) is = (and_parts (list_all is_digit (d ∷ ds)) (length ds == 0 || not (d == 48)) is).0

-- what a number at the front of a text is
pub record IsNumberToken (digits rest : List ℕ) (n : ℕ) : Type 0 where
  pub len : token_len (digits ++ rest) ≡ length digits
  pub kind_is : token_kind (digits ++ rest) ≡ kind.Number n

digits_token : (digits rest : List ℕ) (n : ℕ) → 0 < length digits → list_all is_digit digits ≡ true → number_of digits ≡ Some n → prefix_len is_digit rest ≡ 0
    → IsNumberToken digits rest n
digits_token [] rest n some all value stops = absurd (omega (arith, some))
digits_token (d ∷ ds) rest n some all value stops =
    let first = and_parts (is_digit d) (list_all is_digit ds) all in
    let letter = digit_no_letter d first.0 in
    let text = d ∷ (ds ++ rest) in
    record {
      len = ap (λ (t : Bool). if t then prefix_len is_word_byte text else (if is_digit d then prefix_len is_digit text else 1)) letter
          ∙ ap (λ (t : Bool). if t then prefix_len is_digit text else 1) first.0
          ∙ run_of is_digit (d ∷ ds) rest all stops;
      kind_is =
          ap (λ (t : Bool). if t then word_kind (take_while is_word_byte text) else (if is_digit d then number_kind (number_of (take_while is_digit text)) else (if d == 58 then kind.Colon else kind.Other))) letter
          ∙ ap (λ (t : Bool). if t then number_kind (number_of (take_while is_digit text)) else (if d == 58 then kind.Colon else kind.Other)) first.0
          ∙ ap (λ (w : List ℕ). number_kind (number_of w)) (run_is is_digit (d ∷ ds) rest all stops)
          ∙ ap number_kind value;
    }

pub number_token : (n : ℕ) (rest : List ℕ) → n < 2 ^ 32 → prefix_len is_digit rest ≡ 0 → IsNumberToken (decimal n) rest n
number_token n rest small stops =
    let whole : n < 2 ^ 64 = omega (arith, small) in
    digits_token (decimal n) rest n (number_text n whole).1 (numeral_digits (decimal n) (number_numeral n whole)) (number_read n small) stops
