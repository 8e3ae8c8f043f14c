-- A text has one list of tokens, or one first bad byte.
use Rattle.std.proofs.Common.{◌≡◌, ℕ, zero, suc, ◌+◌, ◌<◌, ◌≤◌, ◌⊎◌, inl, inr, List, [], ◌∷◌, length, drop, refl, ap, sym, ◌∙◌, subst, arith, length-drop}
use Rattle.vd_source_lexer.specs.declared.token.TokenKind.{TokenKind}
use Rattle.vd_source_lexer.specs.declared.token.TokenKind.TheVariants as kind
use Rattle.vd_source_lexer.specs.declared.token.Token.{Token}
use Rattle.vd_source_lexer.specs.declared.piece.Piece.{Piece}
use Rattle.vd_source_lexer.specs.declared.piece.Piece.TheVariants.{Blank, Lexeme, Bad}
use Rattle.vd_source_lexer.specs.Tokens.{first_piece, token_at, IsWithin, Lexes, lexes_end, lexes_blank, lexes_token, FirstBad, bad_here, bad_after_blank, bad_after_token, LexesOnce}
use Rattle.vd_source_lexer.proofs.Pieces.{piece_within}

-- what the tokens of a text are, by its first piece
after_blank : {b i n : ℕ} {bs : List ℕ} {ts : List Token} → first_piece (b ∷ bs) ≡ Blank n → Lexes (b ∷ bs) i ts → Lexes (drop n (b ∷ bs)) (i + n) ts
after_blank {b = b} {i = i} {n = n} {bs = bs} {ts = ts} e (lexes_blank {n = m} e' l) = let same : m ≡ n = cc in subst (λ k. Lexes (drop k (b ∷ bs)) (i + k) ts) same l
after_blank e (lexes_token e' l) = absurd cc

record MadeFirst (bs : List ℕ) (i : ℕ) (k : TokenKind) (n value : ℕ) (ts : List Token) : Type 0 where
  rest : List Token
  is : token_at k i n value ∷ rest ≡ ts
  lexes : Lexes (drop n bs) (i + n) rest

after_token : {b i n value : ℕ} {k : TokenKind} {bs : List ℕ} {ts : List Token} → first_piece (b ∷ bs) ≡ Lexeme k n value → Lexes (b ∷ bs) i ts → MadeFirst (b ∷ bs) i k n value ts
after_token e (lexes_blank e' l) = absurd cc
after_token {b = b} {i = i} {n = n} {value = value} {k = k} {bs = bs} e (lexes_token {n = m} {value = value'} {k = k'} {ts = ts} e' l) =
    let kinds : k ≡ k' = cc in
    let sizes : m ≡ n = cc in
    let values : value ≡ value' = cc in
    let tokens : token_at k i n value ≡ token_at k' i m value' = ap (λ x. token_at x i n value) kinds ∙ ap (λ x. token_at k' i x value) (sym sizes) ∙ ap (λ x. token_at k' i m x) values in
    record { rest = ts; is = ap (λ t. t ∷ ts) tokens; lexes = subst (λ x. Lexes (drop x (b ∷ bs)) (i + x) ts) sizes l }

end_is : {i : ℕ} {us : List Token} → Lexes [] i us → token_at kind.End i 0 0 ∷ [] ≡ us
end_is lexes_end = refl

one_list : {bs : List ℕ} {i : ℕ} {ts : List Token} → Lexes bs i ts → (us : List Token) → Lexes bs i us → ts ≡ us
one_list lexes_end us m = end_is m
one_list (lexes_blank e l) us m = one_list l us (after_blank e m)
one_list (lexes_token {i = i} {n = n} {value = value} {k = k} e l) us m = let r = after_token e m in ap (λ ts. token_at k i n value ∷ ts) (one_list l r.rest r.lexes) ∙ r.is

-- what the first bad byte is, by the first piece
none_in_end : {i k : ℕ} → FirstBad [] i k → ⊥
none_in_end f = elim f [ ]

bad_is_here : {b i k : ℕ} {bs : List ℕ} → first_piece (b ∷ bs) ≡ Bad → FirstBad (b ∷ bs) i k → i ≡ k
bad_is_here e (bad_here e') = refl
bad_is_here e (bad_after_blank e' f) = absurd cc
bad_is_here e (bad_after_token e' f) = absurd cc

bad_past_blank : {b i n k : ℕ} {bs : List ℕ} → first_piece (b ∷ bs) ≡ Blank n → FirstBad (b ∷ bs) i k → FirstBad (drop n (b ∷ bs)) (i + n) k
bad_past_blank e (bad_here e') = absurd cc
bad_past_blank {b = b} {i = i} {n = n} {k = k} {bs = bs} e (bad_after_blank {n = m} e' f) = let same : m ≡ n = cc in subst (λ x. FirstBad (drop x (b ∷ bs)) (i + x) k) same f
bad_past_blank e (bad_after_token e' f) = absurd cc

bad_past_token : {b i n k value : ℕ} {t : TokenKind} {bs : List ℕ} → first_piece (b ∷ bs) ≡ Lexeme t n value → FirstBad (b ∷ bs) i k → FirstBad (drop n (b ∷ bs)) (i + n) k
bad_past_token e (bad_here e') = absurd cc
bad_past_token e (bad_after_blank e' f) = absurd cc
bad_past_token {b = b} {i = i} {n = n} {k = k} {bs = bs} e (bad_after_token {n = m} e' f) = let same : m ≡ n = cc in subst (λ x. FirstBad (drop x (b ∷ bs)) (i + x) k) same f

apart : {bs : List ℕ} {i k : ℕ} {ts : List Token} → Lexes bs i ts → FirstBad bs i k → ⊥
apart lexes_end f = none_in_end f
apart (lexes_blank e l) f = apart l (bad_past_blank e f)
apart (lexes_token e l) f = apart l (bad_past_token e f)

one_fault : {bs : List ℕ} {i j : ℕ} → FirstBad bs i j → (k : ℕ) → FirstBad bs i k → j ≡ k
one_fault (bad_here e) k g = bad_is_here e g
one_fault (bad_after_blank e f) k g = one_fault f k (bad_past_blank e g)
one_fault (bad_after_token e f) k g = one_fault f k (bad_past_token e g)

-- one of the two is always there
abbrev Lexed : List ℕ → ℕ → Type 0
Lexed bs i = ((ts : List Token) × Lexes bs i ts) ⊎ ((k : ℕ) × FirstBad bs i k)

rest_shorter : (n : ℕ) (b : ℕ) (bs : List ℕ) (most : ℕ) → length (b ∷ bs) ≤ most + 1 → (0 < n) × (n ≤ length (b ∷ bs)) → length (drop n (b ∷ bs)) ≤ most
rest_shorter n b bs most h size = omega (arith, length-drop n (b ∷ bs))

lexed_from : (b : ℕ) (bs : List ℕ) (i most : ℕ) → length (b ∷ bs) ≤ most + 1 → (p : Piece) → first_piece (b ∷ bs) ≡ p → IsWithin p (length (b ∷ bs)) → ((cs : List ℕ) (j : ℕ) → length cs ≤ most → Lexed cs j) → Lexed (b ∷ bs) i
lexed_from b bs i most h (Blank n) e size rest = elim (rest (drop n (b ∷ bs)) (i + n) (rest_shorter n b bs most h size)) [
  | inl l ↦ inl (l.0, lexes_blank e l.1)
  | inr f ↦ inr (f.0, bad_after_blank e f.1)
]
lexed_from b bs i most h (Lexeme k n value) e size rest = elim (rest (drop n (b ∷ bs)) (i + n) (rest_shorter n b bs most h size)) [
  | inl l ↦ inl (token_at k i n value ∷ l.0, lexes_token e l.1)
  | inr f ↦ inr (f.0, bad_after_token e f.1)
]
lexed_from b bs i most h Bad e size rest = inr (i, bad_here e)

lexed : (most : ℕ) (bs : List ℕ) (i : ℕ) → length bs ≤ most → Lexed bs i
lexed most [] i h = inl (token_at kind.End i 0 0 ∷ [], lexes_end)
lexed zero (b ∷ bs) i h = absurd (omega arith)
lexed (suc most) (b ∷ bs) i h = lexed_from b bs i most (omega arith) (first_piece (b ∷ bs)) refl (piece_within b bs) (λ cs j less. lexed most cs j less)

pub lexes_once : (bytes : List ℕ) → LexesOnce bytes
lexes_once bytes = record {
  one_list = λ ts us l m. one_list l us m;
  one_fault = λ j k f g. one_fault f k g;
  apart = λ ts k l f. apart l f;
  some = lexed (length bytes) bytes 0 (omega arith);
}
