-- Names of a letter and a number.
use Rattle.std.proofs.Common.{◌≡◌, ◌≢◌, ℕ, ◌+◌, ◌/◌, ◌%◌, ◌<◌, ◌≤◌, Bool, true, false, List, [], ◌∷◌, ◌++◌, length, take, codes, nat_eq, nat_le, bytes_eq, refl, ap, ◌∙◌, arith, if◌then◌else◌}
use Rattle.std.specs.Fmt.{decimal}
use Rattle.std.specs.List.{list_all, prefix_len, take_while, starts_with}
use Rattle.std.proofs.lemmas.Bool.{and_parts, and_from, and_left, le-leb, leb-true, ne_eqb, or_right, false_from_ne_true}
use Rattle.std.proofs.lemmas.Fmt.{decimal_by_steps, decimal_injective}
use Rattle.std.proofs.lemmas.List.Folds.{list_all-append}
use Rattle.std.proofs.lemmas.Slice.Eq.{bytes_eq-Decides}
use Rattle.std.proofs.Math.Seq.{take-append_seam}
use Rattle.vd_base.specs.Lexical.{is_digit, is_letter, is_space, is_word_byte}
use Rattle.vd_source_lexer.specs.Tables.{keyword_kinds}
use Rattle.vd_source_lexer.specs.Tokens.{first_piece, word_kind, word_piece, digits_piece, longest_symbol, is_in_line}
use Rattle.vd_source_lexer.specs.declared.piece.Piece.{Piece}
use Rattle.vd_source_lexer.specs.declared.piece.Piece.TheVariants.{Blank, Lexeme}
use Rattle.vd_source_lexer.specs.declared.token.TokenKind.TheVariants as kind

-- one digit or more
record Digits (n : ℕ) (text : List ℕ) : Type 0 where
  pub first : ℕ
  pub behind : List ℕ
  pub are : text ≡ first ∷ behind
  pub is_digit : is_digit first ≡ true
  pub digits : list_all is_word_byte text ≡ true

digit_in : (d : ℕ) → 48 ≤ d → d ≤ 57 → is_digit d ≡ true
digit_in d low high = and_from (nat_le 48 d) (nat_le d 57) (le-leb 48 d low) (le-leb d 57 high)

word_byte : (d : ℕ) → is_digit d ≡ true → is_word_byte d ≡ true
word_byte d h = or_right (is_letter d) (is_digit d) h

one_byte : (d : ℕ) → is_digit d ≡ true → list_all is_word_byte (d ∷ []) ≡ true
one_byte d h = and_from (is_word_byte d) true (word_byte d h) refl

one_digit : (n : ℕ) → n < 10 → Digits n ((48 + n) ∷ [])
one_digit n h =
    let d = digit_in (48 + n) (omega arith) (omega arith) in
    record { first = 48 + n; behind = []; are = refl; is_digit = d; digits = one_byte (48 + n) d }

more_digits : (n : ℕ) (ds : List ℕ) → 10 ≤ n → Digits (n / 10) ds → Digits n (ds ++ (48 + n % 10) ∷ [])
more_digits n ds h digits =
    let last = digit_in (48 + n % 10) (omega arith) (omega arith) in
    record {
      first = digits.first;
      behind = digits.behind ++ (48 + n % 10) ∷ [];
      are = ap (λ bs. bs ++ (48 + n % 10) ∷ []) digits.are;
      is_digit = digits.is_digit;
      digits = list_all-append is_word_byte ds ((48 + n % 10) ∷ []) ∙ and_from (list_all is_word_byte ds) (list_all is_word_byte ((48 + n % 10) ∷ [])) digits.digits (one_byte (48 + n % 10) last);
    }

digits_of : (k : ℕ) → k < 100 → Digits k (decimal k)
digits_of k h = decimal_by_steps Digits one_digit more_digits k (omega (arith, h))

-- ---- a name at the front of a text

prefix_is : (xs : List ℕ) (b : ℕ) (rest : List ℕ) → list_all is_word_byte xs ≡ true → is_word_byte b ≡ false → prefix_len is_word_byte (xs ++ b ∷ rest) ≡ length xs
prefix_is [] b rest all stops = rw stops refl
prefix_is (x ∷ xs) b rest all stops =
    let p = and_parts (is_word_byte x) (list_all is_word_byte xs) all in
    let more = prefix_is xs b rest p.1 stops in
    rw p.0 (omega (arith, more))

-- a word that is no keyword, and lexes as a name before any byte that no name has
pub record IsPlain (b : ℕ) (bs : List ℕ) : Type 0 where
  pub no_space : is_space b ≡ false
  pub no_slash : nat_eq 47 b ≡ false
  pub letter : is_letter b ≡ true
  pub bytes : list_all is_word_byte (b ∷ bs) ≡ true
  pub no_keyword : word_kind (b ∷ bs) ≡ kind.Name

word_piece_is : (b : ℕ) (bs : List ℕ) (c : ℕ) (rest : List ℕ) → IsPlain b bs → is_word_byte c ≡ false → word_piece (b ∷ (bs ++ c ∷ rest)) ≡ Lexeme kind.Name (length (b ∷ bs)) 0
word_piece_is b bs c rest plain stops =
    let len : prefix_len is_word_byte ((b ∷ bs) ++ c ∷ rest) ≡ length (b ∷ bs) = prefix_is (b ∷ bs) c rest plain.bytes stops in
    let front : take_while is_word_byte ((b ∷ bs) ++ c ∷ rest) ≡ b ∷ bs = ap (λ n. take n ((b ∷ bs) ++ c ∷ rest)) len ∙ take-append_seam (b ∷ bs) (c ∷ rest) in
    ap (λ w. Lexeme (word_kind w) (prefix_len is_word_byte ((b ∷ bs) ++ c ∷ rest)) 0) front
    ∙ ap (λ k. Lexeme k (prefix_len is_word_byte ((b ∷ bs) ++ c ∷ rest)) 0) plain.no_keyword ∙ ap (λ n. Lexeme kind.Name n 0) len

chosen : (s t u : Bool) (a b c d : Piece) → s ≡ false → t ≡ false → u ≡ true → (if s then a else if t then b else if u then c else d) ≡ c
chosen s t u a b c d hs ht hu = rw (hs, ht, hu) refl

pub name_piece : (b : ℕ) (bs : List ℕ) (c : ℕ) (rest : List ℕ) → IsPlain b bs → is_word_byte c ≡ false → first_piece (b ∷ (bs ++ c ∷ rest)) ≡ Lexeme kind.Name (length (b ∷ bs)) 0
unfolding first_piece
name_piece b bs c rest plain stops =
    let text = b ∷ (bs ++ c ∷ rest) in
    let slashes : starts_with nat_eq text (codes "//") ≡ false = and_left (nat_eq 47 b) (starts_with nat_eq (bs ++ c ∷ rest) (codes "/")) plain.no_slash in
    chosen (is_space b) (starts_with nat_eq text (codes "//")) (is_letter b) (Blank 1) (Blank (prefix_len is_in_line text)) (word_piece text)
    (if is_digit b then digits_piece text else longest_symbol text) plain.no_space slashes plain.letter
    ∙ word_piece_is b bs c rest plain stops

-- ---- a letter and a number

differs : (y d : ℕ) → 57 < y → is_digit d ≡ true → nat_eq y d ≡ false
differs y d large h =
    let p = and_parts (nat_le 48 d) (nat_le d 57) h in
    let high = leb-true d 57 p.1 in
    ne_eqb y d (λ e. omega (arith, e, large, high))

kind_of_a : (d : ℕ) (ds : List ℕ) → is_digit d ≡ true → word_kind (97 ∷ d ∷ ds) ≡ kind.Name
unfolding keyword_kinds
kind_of_a d ds h = rw (differs 110 d (omega arith) h, differs 108 d (omega arith) h, differs 114 d (omega arith) h) refl

kind_of_b : (d : ℕ) (ds : List ℕ) → is_digit d ≡ true → word_kind (98 ∷ d ∷ ds) ≡ kind.Name
unfolding keyword_kinds
kind_of_b d ds h = rw (differs 111 d (omega arith) h) refl

kind_of_d : (d : ℕ) (ds : List ℕ) → is_digit d ≡ true → word_kind (100 ∷ d ∷ ds) ≡ kind.Name
unfolding keyword_kinds
kind_of_d d ds h = rw (differs 101 d (omega arith) h) refl

kind_of_q : (d : ℕ) (ds : List ℕ) → is_digit d ≡ true → word_kind (113 ∷ d ∷ ds) ≡ kind.Name
unfolding keyword_kinds
kind_of_q d ds h = refl

kind_of_s : (d : ℕ) (ds : List ℕ) → is_digit d ≡ true → word_kind (115 ∷ d ∷ ds) ≡ kind.Name
unfolding keyword_kinds
kind_of_s d ds h = refl

pub plain_a : (k : ℕ) → k < 100 → IsPlain 97 (decimal k)
plain_a k h =
    let d = digits_of k h in
    record { no_space = refl; no_slash = refl; letter = refl; bytes = d.digits; no_keyword = ap (λ ds. word_kind (97 ∷ ds)) d.are ∙ kind_of_a d.first d.behind d.is_digit }

pub plain_b : (k : ℕ) → k < 100 → IsPlain 98 (decimal k)
plain_b k h =
    let d = digits_of k h in
    record { no_space = refl; no_slash = refl; letter = refl; bytes = d.digits; no_keyword = ap (λ ds. word_kind (98 ∷ ds)) d.are ∙ kind_of_b d.first d.behind d.is_digit }

pub plain_d : (k : ℕ) → k < 100 → IsPlain 100 (decimal k)
plain_d k h =
    let d = digits_of k h in
    record { no_space = refl; no_slash = refl; letter = refl; bytes = d.digits; no_keyword = ap (λ ds. word_kind (100 ∷ ds)) d.are ∙ kind_of_d d.first d.behind d.is_digit }

pub plain_q : (k : ℕ) → k < 100 → IsPlain 113 (decimal k)
plain_q k h =
    let d = digits_of k h in
    record { no_space = refl; no_slash = refl; letter = refl; bytes = d.digits; no_keyword = ap (λ ds. word_kind (113 ∷ ds)) d.are ∙ kind_of_q d.first d.behind d.is_digit }

pub plain_s : (k : ℕ) → k < 100 → IsPlain 115 (decimal k)
plain_s k h =
    let d = digits_of k h in
    record { no_space = refl; no_slash = refl; letter = refl; bytes = d.digits; no_keyword = ap (λ ds. word_kind (115 ∷ ds)) d.are ∙ kind_of_s d.first d.behind d.is_digit }

-- ---- equal and different names

pub same_bytes : (xs : List ℕ) → bytes_eq xs xs ≡ true
same_bytes xs = (bytes_eq-Decides xs xs).1 refl

pub other_number : (j k : ℕ) → j < 100 → k < 100 → j ≢ k → bytes_eq (decimal j) (decimal k) ≡ false
other_number j k hj hk other =
    false_from_ne_true (bytes_eq (decimal j) (decimal k)) (λ e. other (decimal_injective j k (omega (arith, hj)) (omega (arith, hk)) ((bytes_eq-Decides (decimal j) (decimal k)).0 e)))
