-- The piece at the front of a text, by its tests.
use Rattle.std.proofs.Common.{◌≡◌, ℕ, ◌+◌, ◌<◌, ◌≤◌, Bool, true, false, ◌&&◌, ◌||◌, List, [], ◌∷◌, length, slice_index, nat_eq, nat_lt, refl, ap, sym, ◌∙◌, subst, arith, Option, Some, None, if◌then◌else◌, codes}
use Rattle.std.specs.List.{find, list_all, prefix_len, starts_with, take_while}
use Rattle.std.proofs.lemmas.List.Sums.{prefix_len-le-length}
use Rattle.std.proofs.lemmas.Bool.{eqb-true, ltb-true}
use Rattle.std.proofs.Common.{cond, ◌⊎◌, inl, inr}
use Rattle.vd_base.specs.Lexical.{is_space, is_digit, is_letter, is_word_byte, number_of}
use Rattle.vd_source_lexer.specs.Tables.{symbol_kinds}
use Rattle.vd_source_lexer.specs.Tokens.{word_piece, number_piece, digits_piece, symbol_piece, longest_symbol, is_in_line, first_piece, IsWithin}
use Rattle.vd_source_lexer.specs.declared.token.TokenKind.{TokenKind}
use Rattle.vd_source_lexer.specs.declared.piece.Piece.{Piece}
use Rattle.vd_source_lexer.specs.declared.piece.Piece.TheVariants.{Blank}

-- the piece, by whether the text begins with white space, a comment, a letter, a digit
abbrev pub by_tests : Bool → Bool → Bool → Bool → List ℕ → Piece
by_tests space comment letter digit text =
    if space then Blank 1
    else if comment then Blank (prefix_len is_in_line text)
    else if letter then word_piece text
    else if digit then digits_piece text
    else longest_symbol text

module _ (text : List ℕ) where
  pub record Tests (space comment letter digit : Bool) : Type 0 where
    pub at_space : space ≡ is_space (slice_index text 0)
    pub at_comment : comment ≡ starts_with nat_eq text (codes "//")
    pub at_letter : letter ≡ is_letter (slice_index text 0)
    pub at_digit : digit ≡ is_digit (slice_index text 0)

  pub piece_by_tests : (space comment letter digit : Bool) → Tests space comment letter digit → by_tests space comment letter digit text ≡ first_piece text
  unfolding first_piece
  piece_by_tests s c l d t = rw (t.at_space, t.at_comment, t.at_letter, t.at_digit) refl

both_left : (a b : Bool) → (a && b) ≡ true → a ≡ true
both_left true b e = refl
both_left false b e = e

both_right : (a b : Bool) → (a && b) ≡ true → b ≡ true
both_right true b e = e
both_right false b e = absurd cc

not_longer : (needle xs : List ℕ) → starts_with nat_eq xs needle ≡ true → length needle ≤ length xs
not_longer [] xs e = omega arith
not_longer (n ∷ ns) [] e = absurd cc
not_longer (n ∷ ns) (x ∷ xs) e = omega (arith, not_longer ns xs (both_right _ _ e))

at_front : {X : Type 0} (t : Bool) (y x : X) (r : Option X) → cond t (Some y) r ≡ Some x → ((t ≡ true) × (y ≡ x)) ⊎ (r ≡ Some x)
at_front true y x r e = inl (refl, cc)
at_front false y x r e = inr e

-- what a search finds passes the test, and any test that all pass
module _ {X : Type 0} (p q : X → Bool) where
  pub record Found (x : X) : Type 0 where
    pub passes : p x ≡ true
    pub common : q x ≡ true

  pub found : (xs : List X) → list_all q xs ≡ true → (x : X) → find p xs ≡ Some x → Found x
  found [] a x e = absurd cc
  found (y ∷ ys) a x e = elim (at_front (p y) y x (find p ys) e) [
    | inl h ↦ record { passes = ap p (sym h.1) ∙ h.0; common = ap q (sym h.1) ∙ both_left _ _ a }
    | inr h ↦ found ys (both_right _ _ a) x h
  ]

module _ (text : List ℕ) where
  symbol_within : (o : Option (List ℕ × TokenKind)) → find (λ symbol. starts_with nat_eq text symbol.0) symbol_kinds ≡ o → IsWithin (symbol_piece o) (length text)
  unfolding symbol_kinds
  symbol_within None e = tt
  symbol_within (Some symbol) e =
      let f = found (λ symbol. starts_with nat_eq text symbol.0) (λ symbol. nat_lt 0 (length symbol.0)) symbol_kinds refl symbol e in
      (ltb-true 0 (length symbol.0) f.common, not_longer symbol.0 text f.passes)

front_run : (p : ℕ → Bool) (b : ℕ) (bs : List ℕ) → p b ≡ true → (0 < prefix_len p (b ∷ bs)) × (prefix_len p (b ∷ bs) ≤ length (b ∷ bs))
front_run p b bs e =
    let one_more : prefix_len p (b ∷ bs) ≡ 1 + prefix_len p bs = ap (λ t. cond t (1 + prefix_len p bs) 0) e in
    (omega (arith, one_more), prefix_len-le-length p (b ∷ bs))

number_within : (n len : ℕ) → (0 < n) × (n ≤ len) → (o : Option ℕ) → IsWithin (number_piece n o) len
number_within n len h None = tt
number_within n len h (Some value) = h

in_line : (b : ℕ) → nat_eq 47 b ≡ true → is_in_line b ≡ true
in_line b e = ap is_in_line (sym (eqb-true 47 b e))

within_tests : (b : ℕ) (bs : List ℕ) (space comment letter digit : Bool) → Tests (b ∷ bs) space comment letter digit → IsWithin (by_tests space comment letter digit (b ∷ bs)) (length (b ∷ bs))
within_tests b bs true c l d t = (omega arith, omega arith)
within_tests b bs false true l d t = front_run is_in_line b bs (in_line b (both_left _ _ (sym t.at_comment)))
within_tests b bs false false true d t = front_run is_word_byte b bs (ap (λ s. s || is_digit b) (sym t.at_letter))
within_tests b bs false false false true t = number_within _ _ (front_run is_digit b bs (sym t.at_digit)) (number_of (take_while is_digit (b ∷ bs)))
within_tests b bs false false false false t = symbol_within (b ∷ bs) _ refl

pub piece_within : (b : ℕ) (bs : List ℕ) → IsWithin (first_piece (b ∷ bs)) (length (b ∷ bs))
piece_within b bs =
    let t : Tests (b ∷ bs) (is_space b) (starts_with nat_eq (b ∷ bs) (codes "//")) (is_letter b) (is_digit b) = record { at_space = refl; at_comment = refl; at_letter = refl; at_digit = refl } in
    subst (λ piece. IsWithin piece (length (b ∷ bs))) (piece_by_tests (b ∷ bs) _ _ _ _ t) (within_tests b bs _ _ _ _ t)
