-- One piece after another.
use Rattle.std.proofs.Common.{◌≡◌, ℕ, ◌+◌, ◌-◌, ◌<◌, ◌≤◌, List, [], ◌∷◌, length, take, drop, slice_index, sym, ap, ◌∙◌, subst, add-one, drop-cons, drop-drop, length-drop}
use Rattle.std.proofs.lemmas.List.{drop_all}
use Rattle.std.proofs.Math.Seq.{take-length}
use Rattle.vd_source_lexer.specs.declared.token.TokenKind.{TokenKind}
use Rattle.vd_source_lexer.specs.declared.token.TokenKind.TheVariants as kind
use Rattle.vd_source_lexer.specs.declared.token.Token.{Token}
use Rattle.vd_source_lexer.specs.declared.piece.Piece.{Piece}
use Rattle.vd_source_lexer.specs.declared.piece.Piece.TheVariants.{Blank, Lexeme, Bad}
use Rattle.vd_source_lexer.specs.Tokens.{first_piece, token_at, IsWithin, Lexes, lexes_end, lexes_blank, lexes_token, FirstBad, bad_here, bad_after_blank, bad_after_token}
use Rattle.vd_source_lexer.proofs.Pieces.{piece_within}

-- the value of `&xs[i..]`
abbrev slice_from : ℕ → List ℕ → List ℕ
slice_from i xs = take (length xs - i) (drop i xs)

slice_from_is : (xs : List ℕ) (i : ℕ) → slice_from i xs ≡ drop i xs
slice_from_is xs i = ap (λ n. take n (drop i xs)) (sym (length-drop i xs)) ∙ take-length (drop i xs)

front : (xs : List ℕ) (i : ℕ) → i < length xs → drop i xs ≡ slice_index xs i ∷ drop (i + 1) xs
front xs i h = rw add-one (drop-cons xs i 0 h)

module _ (xs : List ℕ) (i : ℕ) (h : i < length xs) where
  after : (n : ℕ) → drop (i + n) xs ≡ drop n (slice_index xs i ∷ drop (i + 1) xs)
  after n = sym (drop-drop n i xs) ∙ ap (drop n) (front xs i h)

  piece_here : (p : Piece) → p ≡ first_piece (slice_from i xs) → first_piece (slice_index xs i ∷ drop (i + 1) xs) ≡ p
  piece_here p e = sym (e ∙ ap first_piece (slice_from_is xs i ∙ front xs i h))

  pub size_here : (p : Piece) → p ≡ first_piece (slice_from i xs) → IsWithin p (length xs - i)
  size_here p e =
      let len : length (slice_index xs i ∷ drop (i + 1) xs) ≡ length xs - i = sym (ap length (front xs i h)) ∙ length-drop i xs in
      subst (λ q. IsWithin q (length xs - i)) (piece_here p e) (subst (λ n. IsWithin (first_piece (slice_index xs i ∷ drop (i + 1) xs)) n) len (piece_within _ _))

  pub lexes_after_blank : (n : ℕ) (ts : List Token) → Blank n ≡ first_piece (slice_from i xs) → Lexes (drop (i + n) xs) (i + n) ts → Lexes (drop i xs) i ts
  lexes_after_blank n ts e l = subst (λ bs. Lexes bs i ts) (sym (front xs i h)) (lexes_blank (piece_here (Blank n) e) (subst (λ bs. Lexes bs (i + n) ts) (after n) l))

  pub lexes_after_token : (k : TokenKind) (n value : ℕ) (ts : List Token) → Lexeme k n value ≡ first_piece (slice_from i xs) → Lexes (drop (i + n) xs) (i + n) ts → Lexes (drop i xs) i (token_at k i n value ∷ ts)
  lexes_after_token k n value ts e l = subst (λ bs. Lexes bs i (token_at k i n value ∷ ts)) (sym (front xs i h)) (lexes_token (piece_here (Lexeme k n value) e) (subst (λ bs. Lexes bs (i + n) ts) (after n) l))

  pub bad_at : Bad ≡ first_piece (slice_from i xs) → FirstBad (drop i xs) i i
  bad_at e = subst (λ bs. FirstBad bs i i) (sym (front xs i h)) (bad_here (piece_here Bad e))

  pub bad_behind_blank : (n k : ℕ) → Blank n ≡ first_piece (slice_from i xs) → FirstBad (drop (i + n) xs) (i + n) k → FirstBad (drop i xs) i k
  bad_behind_blank n k e f = subst (λ bs. FirstBad bs i k) (sym (front xs i h)) (bad_after_blank (piece_here (Blank n) e) (subst (λ bs. FirstBad bs (i + n) k) (after n) f))

  pub bad_behind_token : (t : TokenKind) (n value k : ℕ) → Lexeme t n value ≡ first_piece (slice_from i xs) → FirstBad (drop (i + n) xs) (i + n) k → FirstBad (drop i xs) i k
  bad_behind_token t n value k e f = subst (λ bs. FirstBad bs i k) (sym (front xs i h)) (bad_after_token (piece_here (Lexeme t n value) e) (subst (λ bs. FirstBad bs (i + n) k) (after n) f))

pub lexes_at_end : (xs : List ℕ) (i : ℕ) → length xs ≤ i → Lexes (drop i xs) i (token_at kind.End i 0 0 ∷ [])
lexes_at_end xs i h = subst (λ bs. Lexes bs i (token_at kind.End i 0 0 ∷ [])) (sym (drop_all i xs h)) lexes_end
