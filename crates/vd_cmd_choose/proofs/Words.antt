-- Texts as the words and the white space that they are made of, and their tokens.
use Rattle.std.proofs.Common.{◌≡◌, ℕ, ◌+◌, ◌-◌, Bool, true, ◌&&◌, not, List, [], ◌∷◌, ◌++◌, length, take, drop, None, refl, sym, ap, ◌∙◌, subst, arith}
use Rattle.std.specs.List.{list_all}
use Rattle.std.proofs.lemmas.Bool.{and_parts, not-true}
use Rattle.std.proofs.lemmas.List.{drop-drop}
use Rattle.std.proofs.Math.Seq.{drop-append_seam, take-append_seam}
use Rattle.vd_base.specs.Lexical.{is_space}
use Rattle.vd_source_lexer.specs.Tokens.{first_piece, token_at, Lexes, lexes_end, lexes_blank, lexes_token}
use Rattle.vd_source_lexer.specs.declared.piece.Piece.TheVariants.{Blank, Lexeme}
use Rattle.vd_source_lexer.specs.declared.token.Token.{Token}
use Rattle.vd_source_lexer.specs.declared.token.TokenKind.{TokenKind}
use Rattle.vd_source_lexer.specs.declared.token.TokenKind.TheVariants as kind
use Rattle.vd_parser.specs.Syntax.{word_at}
use Rattle.vd_parser.specs.Nesting.{NoneTooDeep, open_behind}
use Rattle.vd_parser.proofs.Front.{is_too_deep, first_deep_from, deep_step, deep_none, none_deep}

-- white space, or a word that is a token: its kind, its first byte, the bytes behind it, and its value
pub data Part : Type 0 where
  Gap : List ℕ → Part
  Word : TokenKind → ℕ → List ℕ → ℕ → Part

-- a word by its text
abbrev pub word : TokenKind → List ℕ → Part
word k [] = Gap []
word k (b ∷ bs) = Word k b bs 0

abbrev pub text_of : List Part → List ℕ
text_of [] = []
text_of (Gap bs ∷ ps) = bs ++ text_of ps
text_of (Word k b bs v ∷ ps) = b ∷ (bs ++ text_of ps)

-- the tokens of parts that begin at offset i, and the end
abbrev pub tokens_from : ℕ → List Part → List Token
tokens_from i [] = token_at kind.End i 0 0 ∷ []
tokens_from i (Gap bs ∷ ps) = tokens_from (i + length bs) ps
tokens_from i (Word k b bs v ∷ ps) = token_at k i (length (b ∷ bs)) v ∷ tokens_from (i + length (b ∷ bs)) ps

-- each word is the token at the front of the text from there on
abbrev pub Lexable : List Part → Type 0
Lexable [] = Unit {0}
Lexable (Gap bs ∷ ps) = (list_all is_space bs ≡ true) × Lexable ps
Lexable (Word k b bs v ∷ ps) = (first_piece (b ∷ (bs ++ text_of ps)) ≡ Lexeme k (length (b ∷ bs)) v) × Lexable ps

space_piece : (b : ℕ) (bs : List ℕ) → is_space b ≡ true → first_piece (b ∷ bs) ≡ Blank 1
unfolding first_piece
space_piece b bs h = rw h refl

gap_lexes : (bs text : List ℕ) (i : ℕ) (ts : List Token) → list_all is_space bs ≡ true → Lexes text (i + length bs) ts → Lexes (bs ++ text) i ts
gap_lexes [] text i ts h l = let same : i + 0 ≡ i = omega arith in subst (λ j. Lexes text j ts) same l
gap_lexes (b ∷ bs) text i ts h l =
    let p = and_parts (is_space b) (list_all is_space bs) h in
    let same : i + length (b ∷ bs) ≡ i + 1 + length bs = omega arith in
    lexes_blank (space_piece b (bs ++ text) p.0) (gap_lexes bs text (i + 1) ts p.1 (subst (λ j. Lexes text j ts) same l))

-- the text of lexable parts has their tokens
pub lexes_parts : (ps : List Part) (i : ℕ) → Lexable ps → Lexes (text_of ps) i (tokens_from i ps)
lexes_parts [] i l = lexes_end
lexes_parts (Gap bs ∷ ps) i l = gap_lexes bs (text_of ps) i (tokens_from (i + length bs) ps) l.0 (lexes_parts ps (i + length bs) l.1)
lexes_parts (Word k b bs v ∷ ps) i l =
    lexes_token l.0 (subst (λ text. Lexes text (i + length (b ∷ bs)) (tokens_from (i + length (b ∷ bs)) ps)) (sym (drop-append_seam (b ∷ bs) (text_of ps))) (lexes_parts ps (i + length (b ∷ bs)) l.1))

-- ---- what holds of the tokens, wherever they stand

-- a token of this kind whose bytes are this word
abbrev pub Stands : List ℕ → Token → TokenKind → List ℕ → Type 0
Stands text t k w = (t.kind ≡ k) × (word_at text t.span ≡ w)

-- G holds of all lists of tokens that stand for these parts, with the end behind them
abbrev pub Holds : List ℕ → List Part → (List Token → Type 0) → Type 0
Holds text [] G = (t : Token) → t.kind ≡ kind.End → G (t ∷ [])
Holds text (Gap bs ∷ ps) G = Holds text ps G
Holds text (Word k b bs v ∷ ps) G = (t : Token) → Stands text t k (b ∷ bs) → Holds text ps (λ ts. G (t ∷ ts))

pub holds_map : (text : List ℕ) (ps : List Part) (G H : List Token → Type 0) → ((ts : List Token) → G ts → H ts) → Holds text ps G → Holds text ps H
holds_map text [] G H f h = λ t is. f (t ∷ []) (h t is)
holds_map text (Gap bs ∷ ps) G H f h = holds_map text ps G H f h
holds_map text (Word k b bs v ∷ ps) G H f h = λ t is. holds_map text ps (λ ts. G (t ∷ ts)) (λ ts. H (t ∷ ts)) (λ ts g. f (t ∷ ts) g) (h t is)

passed : (text bs rest : List ℕ) (i : ℕ) → drop i text ≡ bs ++ rest → drop (i + length bs) text ≡ rest
passed text bs rest i e = sym (drop-drop (length bs) i text) ∙ ap (drop (length bs)) e ∙ drop-append_seam bs rest

taken : (text bs rest : List ℕ) (i : ℕ) → drop i text ≡ bs ++ rest → take (i + length bs - i) (drop i text) ≡ bs
taken text bs rest i e = let n : i + length bs - i ≡ length bs = omega arith in ap (λ m. take m (drop i text)) n ∙ ap (take (length bs)) e ∙ take-append_seam bs rest

-- so it holds of the tokens at their places
pub holds_at : (text : List ℕ) (ps : List Part) (i : ℕ) (G : List Token → Type 0) → drop i text ≡ text_of ps → Holds text ps G → G (tokens_from i ps)
holds_at text [] i G e h = h (token_at kind.End i 0 0) refl
holds_at text (Gap bs ∷ ps) i G e h = holds_at text ps (i + length bs) G (passed text bs (text_of ps) i e) h
holds_at text (Word k b bs v ∷ ps) i G e h =
    holds_at text ps (i + length (b ∷ bs)) (λ ts. G (token_at k i (length (b ∷ bs)) v ∷ ts)) (passed text (b ∷ bs) (text_of ps) i e)
    (h (token_at k i (length (b ∷ bs)) v) (refl, taken text (b ∷ bs) (text_of ps) i e))

-- ---- open brackets

-- no word opens a bracket beyond the limit, where n are open before
abbrev pub shallow : ℕ → List Part → Bool
shallow n [] = true
shallow n (Gap bs ∷ ps) = shallow n ps
shallow n (Word k b bs v ∷ ps) = not (is_too_deep k n) && shallow (open_behind k n) ps

none_from : (ps : List Part) (i j n : ℕ) → shallow n ps ≡ true → first_deep_from j n (tokens_from i ps) ≡ None
none_from [] i j n h = deep_step j n (token_at kind.End i 0 0) [] refl ∙ deep_none (j + 1) (open_behind kind.End n)
none_from (Gap bs ∷ ps) i j n h = none_from ps (i + length bs) j n h
none_from (Word k b bs v ∷ ps) i j n h =
    let p = and_parts (not (is_too_deep k n)) (shallow (open_behind k n) ps) h in
    deep_step j n (token_at k i (length (b ∷ bs)) v) (tokens_from (i + length (b ∷ bs)) ps) (not-true (is_too_deep k n) p.0) ∙ none_from ps (i + length (b ∷ bs)) (j + 1) (open_behind k n) p.1

pub shallow_parts : (ps : List Part) → shallow 0 ps ≡ true → NoneTooDeep (tokens_from 0 ps)
shallow_parts ps h = none_deep (tokens_from 0 ps) (none_from ps 0 0 0 h)
