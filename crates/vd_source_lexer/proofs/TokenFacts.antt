-- What the tokens of a text are: the end is the last and no other, and names and numbers are spelled at their spans.
use Rattle.std.proofs.Common.{◌≡◌, ℕ, zero, suc, ◌+◌, ◌-◌, ◌<◌, ◌≤◌, Bool, true, false, cond, not, ◌&&◌, ◌||◌, List, [], ◌∷◌, length, take, drop, slice_index, refl, ap, sym, ◌∙◌, subst, arith, nat_lt, Option, Some, None, codes, nat_eq, length-drop, drop-drop}
use Rattle.std.specs.Prelude.{All}
use Rattle.std.specs.List.{find, list_all, list_any, prefix_len, take_while, starts_with}
use Rattle.std.specs.Str.{bytes_eq}
use Rattle.std.proofs.lemmas.Bool.{ltb-true}
use Rattle.std.proofs.lemmas.List.Elements.{All-nil, All-cons}
use Rattle.std.proofs.lemmas.List.Sums.{take_while-cons}
use Rattle.vd_base.specs.Lexical.{is_space, is_digit, is_letter, is_word_byte, is_keyword, keywords, is_name, number_of}
use Rattle.vd_source_lexer.specs.Kinds.{code_of}
use Rattle.vd_source_lexer.specs.Tables.{keyword_kinds, symbol_kinds}
use Rattle.vd_source_lexer.specs.declared.token.TokenKind.{TokenKind}
use Rattle.vd_source_lexer.specs.declared.token.TokenKind.TheVariants as kind
use Rattle.vd_source_lexer.specs.declared.token.Token.{Token}
use Rattle.vd_source_lexer.specs.declared.piece.Piece.{Piece}
use Rattle.vd_source_lexer.specs.declared.piece.Piece.TheVariants.{Blank, Lexeme}
use Rattle.vd_source_lexer.specs.Tokens.{keyword_or_name, word_kind, number_piece, symbol_piece, first_piece, token_at, IsWithin, Lexes, lexes_end, lexes_blank, lexes_token, kinds, EndsOnce, IsSpelled, text_of}
use Rattle.vd_source_lexer.proofs.Pieces.{by_tests, Tests, piece_by_tests, piece_within, found}

abbrev is_marked : (List ℕ × TokenKind) → Bool
is_marked entry = nat_lt 2 (code_of entry.1)

-- a keyword's kind and a symbol's are neither the end's nor a name's nor a number's
marked_entry : (p : (List ℕ × TokenKind) → Bool) (table : List (List ℕ × TokenKind)) → list_all is_marked table ≡ true → (e : List ℕ × TokenKind) → find p table ≡ Some e → 2 < code_of e.1
marked_entry p table all e is = ltb-true 2 (code_of e.1) (found p is_marked table all e is).common

-- what is known of the token at the front of a text
record IsSound (text : List ℕ) (k : TokenKind) (n value : ℕ) : Type 0 where
  not_end : 0 < code_of k
  name : k ≡ kind.Name → is_name (take n text) ≡ true
  number : k ≡ kind.Number → number_of (take n text) ≡ Some value

marked_sound : (text : List ℕ) (k : TokenKind) (n value : ℕ) → 2 < code_of k → IsSound text k n value
marked_sound text k n value h = record {
  not_end = omega arith;
  name = λ e. let code : code_of k ≡ 1 = ap code_of e in absurd (omega arith);
  number = λ e. let code : code_of k ≡ 2 = ap code_of e in absurd (omega arith);
}

-- words
all_pass_at : (p : ℕ → Bool) (x : ℕ) (r : List ℕ) (t : Bool) → p x ≡ t → list_all p r ≡ true → list_all p (cond t (x ∷ r) []) ≡ true
all_pass_at p x r true e all = ap (λ s. s && list_all p r) e ∙ all
all_pass_at p x r false e all = refl

all_pass : (p : ℕ → Bool) (xs : List ℕ) → list_all p (take_while p xs) ≡ true
all_pass p [] = refl
all_pass p (x ∷ xs) = ap (list_all p) (take_while-cons p x xs) ∙ all_pass_at p x (take_while p xs) (p x) refl (all_pass p xs)

at_front : (t : Bool) (y : List ℕ × TokenKind) (r : Option (List ℕ × TokenKind)) → cond t (Some y) r ≡ None → (t ≡ false) × (r ≡ None)
at_front true y r e = absurd cc
at_front false y r e = (refl, e)

none_pass : (p : (List ℕ × TokenKind) → Bool) (xs : List (List ℕ × TokenKind)) → find p xs ≡ None → list_any p xs ≡ false
none_pass p [] e = refl
none_pass p (y ∷ ys) e = let h = at_front (p y) y (find p ys) e in ap (λ t. t || list_any p ys) h.0 ∙ none_pass p ys h.1

no_keyword : (word : List ℕ) → find (λ keyword. bytes_eq keyword.0 word) keyword_kinds ≡ None → is_keyword word ≡ false
unfolding keywords keyword_kinds
no_keyword word e = none_pass (λ keyword. bytes_eq keyword.0 word) keyword_kinds e

all_three : (a b c : Bool) → a ≡ true → b ≡ true → c ≡ false → (a && b && not c) ≡ true
all_three a b c d e f = rw (d, e, f) refl

word_is_name : (b : ℕ) (bs : List ℕ) → is_letter b ≡ true → is_keyword (take_while is_word_byte (b ∷ bs)) ≡ false → is_name (take_while is_word_byte (b ∷ bs)) ≡ true
word_is_name b bs letter e =
    let r = take_while is_word_byte bs in
    let first : is_word_byte b ≡ true = ap (λ t. t || is_digit b) letter in
    let same : take_while is_word_byte (b ∷ bs) ≡ b ∷ r = take_while-cons is_word_byte b bs ∙ ap (λ t. cond t (b ∷ r) []) first in
    ap is_name same ∙ all_three (is_letter b) (list_all is_word_byte r) (is_keyword (b ∷ r)) letter (all_pass is_word_byte bs) (ap is_keyword (sym same) ∙ e)

marked_keyword : (p : (List ℕ × TokenKind) → Bool) (entry : List ℕ × TokenKind) → find p keyword_kinds ≡ Some entry → 2 < code_of entry.1
unfolding keyword_kinds
marked_keyword p entry e = marked_entry p keyword_kinds refl entry e

word_sound : (b : ℕ) (bs : List ℕ) → is_letter b ≡ true → (o : Option (List ℕ × TokenKind)) → find (λ keyword. bytes_eq keyword.0 (take_while is_word_byte (b ∷ bs))) keyword_kinds ≡ o → IsSound (b ∷ bs) (keyword_or_name o) (prefix_len is_word_byte (b ∷ bs)) 0
word_sound b bs letter None e = record {
  not_end = omega arith;
  name = λ _. word_is_name b bs letter (no_keyword _ e);
  number = λ h. absurd cc;
}
word_sound b bs letter (Some entry) e = marked_sound (b ∷ bs) entry.1 _ 0 (marked_keyword _ entry e)

-- digits and symbols
number_sound : (text : List ℕ) (len : ℕ) (o : Option ℕ) → number_of (take len text) ≡ o → (k : TokenKind) (n value : ℕ) → number_piece len o ≡ Lexeme k n value → IsSound text k n value
number_sound text len None e k n value is = absurd cc
number_sound text len (Some v) e k n value is =
    let kinds : kind.Number ≡ k = cc in
    let sizes : len ≡ n = cc in
    let values : v ≡ value = cc in
    record {
      not_end = let code : 2 ≡ code_of k = ap code_of kinds in omega arith;
      name = λ h. absurd cc;
      number = λ _. ap (λ m. number_of (take m text)) (sym sizes) ∙ e ∙ ap Some values;
    }

marked_symbol : (p : (List ℕ × TokenKind) → Bool) (entry : List ℕ × TokenKind) → find p symbol_kinds ≡ Some entry → 2 < code_of entry.1
unfolding symbol_kinds
marked_symbol p entry e = marked_entry p symbol_kinds refl entry e

symbol_sound : (text : List ℕ) (o : Option (List ℕ × TokenKind)) → find (λ symbol. starts_with nat_eq text symbol.0) symbol_kinds ≡ o → (k : TokenKind) (n value : ℕ) → symbol_piece o ≡ Lexeme k n value → IsSound text k n value
symbol_sound text None e k n value is = absurd cc
symbol_sound text (Some entry) e k n value is =
    let kinds : entry.1 ≡ k = cc in
    let code : code_of entry.1 ≡ code_of k = ap code_of kinds in
    let marked : 2 < code_of entry.1 = marked_symbol (λ symbol. starts_with nat_eq text symbol.0) entry e in
    marked_sound text k n value (omega arith)

made_by_tests : (b : ℕ) (bs : List ℕ) (space comment letter digit : Bool) → Tests (b ∷ bs) space comment letter digit → (k : TokenKind) (n value : ℕ) → by_tests space comment letter digit (b ∷ bs) ≡ Lexeme k n value → IsSound (b ∷ bs) k n value
made_by_tests b bs true c l d t k n value e = absurd cc
made_by_tests b bs false true l d t k n value e = absurd cc
made_by_tests b bs false false true d t k n value e =
    let w = take_while is_word_byte (b ∷ bs) in
    let kinds : word_kind w ≡ k = cc in
    let sizes : prefix_len is_word_byte (b ∷ bs) ≡ n = cc in
    let values : 0 ≡ value = cc in
    subst (λ v. IsSound (b ∷ bs) k n v) values (subst (λ m. IsSound (b ∷ bs) k m 0) sizes (subst (λ j. IsSound (b ∷ bs) j (prefix_len is_word_byte (b ∷ bs)) 0) kinds (word_sound b bs (sym t.at_letter) _ refl)))
made_by_tests b bs false false false true t k n value e = number_sound (b ∷ bs) (prefix_len is_digit (b ∷ bs)) _ refl k n value e
made_by_tests b bs false false false false t k n value e = symbol_sound (b ∷ bs) _ refl k n value e

made_sound : (b : ℕ) (bs : List ℕ) (k : TokenKind) (n value : ℕ) → first_piece (b ∷ bs) ≡ Lexeme k n value → IsSound (b ∷ bs) k n value
made_sound b bs k n value e =
    let t : Tests (b ∷ bs) (is_space b) (starts_with nat_eq (b ∷ bs) (codes "//")) (is_letter b) (is_digit b) = record { at_space = refl; at_comment = refl; at_letter = refl; at_digit = refl } in
    made_by_tests b bs _ _ _ _ t k n value (piece_by_tests (b ∷ bs) _ _ _ _ t ∙ e)

-- the end is the last token and no other
end_alone : EndsOnce (0 ∷ [])
end_alone = record { some = omega arith; end = refl; only = λ i e. omega arith }

only_later : (k : ℕ) (ks : List ℕ) → 0 < k → EndsOnce ks → (i : ℕ) → slice_index (k ∷ ks) i ≡ 0 → length (k ∷ ks) ≤ i + 1
only_later k ks h ends zero e = absurd (omega arith)
only_later k ks h ends (suc i) e = let later = ends.only i e in omega arith

end_later : (k : ℕ) (ks : List ℕ) → 0 < k → EndsOnce ks → EndsOnce (k ∷ ks)
end_later k [] h ends = absurd (omega (arith, ends.some))
end_later k (j ∷ js) h ends =
    let last : length (k ∷ j ∷ js) - 1 ≡ suc (length (j ∷ js) - 1) = omega arith in
    record { some = omega arith; end = ap (slice_index (k ∷ j ∷ js)) last ∙ ends.end; only = only_later k (j ∷ js) h ends }

pub ends_once : {bs : List ℕ} {i : ℕ} {ts : List Token} → Lexes bs i ts → EndsOnce (kinds ts)
ends_once lexes_end = end_alone
ends_once (lexes_blank e l) = ends_once l
ends_once (lexes_token {b = b} {n = n} {value = value} {bs = bs} {k = k} {ts = ts} e l) = end_later (code_of k) (kinds ts) (made_sound b bs k n value e).not_end (ends_once l)

-- what stands at offset i and behind it
record IsRest (bytes : List ℕ) (i : ℕ) (bs : List ℕ) : Type 0 where
  is : drop i bytes ≡ bs
  len : i + length bs ≡ length bytes

rest_after : (bytes : List ℕ) (i n b : ℕ) (bs : List ℕ) → n ≤ length (b ∷ bs) → IsRest bytes i (b ∷ bs) → IsRest bytes (i + n) (drop n (b ∷ bs))
rest_after bytes i n b bs h r = record {
  is = sym (drop-drop n i bytes) ∙ ap (drop n) r.is;
  len = omega (arith, length-drop n (b ∷ bs), r.len);
}

token_text : (bytes : List ℕ) (i n b : ℕ) (bs : List ℕ) (k : TokenKind) (value : ℕ) → IsRest bytes i (b ∷ bs) → text_of bytes (token_at k i n value) ≡ take n (b ∷ bs)
token_text bytes i n b bs k value r = let len : i + n - i ≡ n = omega arith in ap (λ m. take m (drop i bytes)) len ∙ ap (take n) r.is

token_spelled : (bytes : List ℕ) (i n b : ℕ) (bs : List ℕ) (k : TokenKind) (value : ℕ) → IsRest bytes i (b ∷ bs) → n ≤ length (b ∷ bs) → IsSound (b ∷ bs) k n value → IsSpelled bytes (token_at k i n value)
token_spelled bytes i n b bs k value r h sound =
    let text = token_text bytes i n b bs k value r in
    record {
      start = omega arith;
      end = omega (arith, r.len);
      name = λ e. ap is_name text ∙ sound.name e;
      number = λ e. ap number_of text ∙ sound.number e;
    }

size_of : (b : ℕ) (bs : List ℕ) (p : Piece) → first_piece (b ∷ bs) ≡ p → IsWithin p (length (b ∷ bs))
size_of b bs p e = subst (λ q. IsWithin q (length (b ∷ bs))) e (piece_within b bs)

all_spelled : {bs : List ℕ} {i : ℕ} {ts : List Token} → Lexes bs i ts → (bytes : List ℕ) → IsRest bytes i bs → All (IsSpelled bytes) ts
all_spelled (lexes_end {i = i}) bytes r = All-cons (IsSpelled bytes) _ [] (record { start = omega arith; end = omega (arith, r.len); name = λ e. absurd cc; number = λ e. absurd cc }) (All-nil (IsSpelled bytes))
all_spelled (lexes_blank {b = b} {i = i} {n = n} {bs = bs} e l) bytes r = all_spelled l bytes (rest_after bytes i n b bs (size_of b bs (Blank n) e).1 r)
all_spelled (lexes_token {b = b} {i = i} {n = n} {value = value} {bs = bs} {k = k} {ts = ts} e l) bytes r =
    let h = (size_of b bs (Lexeme k n value) e).1 in
    All-cons (IsSpelled bytes) (token_at k i n value) ts (token_spelled bytes i n b bs k value r h (made_sound b bs k n value e)) (all_spelled l bytes (rest_after bytes i n b bs h r))

pub tokens_spelled : (bytes : List ℕ) (ts : List Token) → Lexes bytes 0 ts → All (IsSpelled bytes) ts
tokens_spelled bytes ts l = all_spelled l bytes (record { is = refl; len = omega arith })
