-- The tokens of a text stand one behind the other, so texts of parts of the grammar do too.
use Rattle.std.proofs.Common.{◌≡◌, ℕ, ◌+◌, ◌<◌, ◌≤◌, List, [], ◌∷◌, length, drop, subst, arith, length-drop}
use Rattle.vd_source_lexer.specs.Grammar.{Ebnf}
use Rattle.vd_source_lexer.specs.Trees.{Tree, Makes, m-tok, m-sym, m-eps, m-seq, m-left, m-right, m-stop, m-more}
use Rattle.vd_source_lexer.specs.Kinds.{code_of}
use Rattle.vd_source_lexer.specs.declared.token.Token.{Token}
use Rattle.vd_source_lexer.specs.declared.piece.Piece.{Piece}
use Rattle.vd_source_lexer.specs.declared.piece.Piece.TheVariants.{Blank, Lexeme}
use Rattle.vd_source_lexer.specs.Tokens.{first_piece, IsWithin, Lexes, lexes_end, lexes_blank, lexes_token}
use Rattle.vd_source_lexer.proofs.Front.{piece_within}
use Rattle.vd_parser.specs.Language.{Symbol, rule}

-- a token stands at the offset or behind it, and if it is not the end it has some bytes
pub record IsFrom (from : ℕ) (t : Token) : Type 0 where
  pub start : from ≤ t.span.start
  pub end : t.span.start ≤ t.span.end
  pub some : 0 < code_of t.kind → t.span.start < t.span.end

-- the tokens stand in order between two offsets
abbrev pub Stand : ℕ → List Token → ℕ → Type 0
Stand from [] upto = from ≤ upto
Stand from (t ∷ ts) upto = IsFrom from t × Stand t.span.end ts upto

size_of : (b : ℕ) (bs : List ℕ) (p : Piece) → first_piece (b ∷ bs) ≡ p → IsWithin p (length (b ∷ bs))
size_of b bs p e = subst (λ q. IsWithin q (length (b ∷ bs))) e (piece_within b bs)

rest_ends : (i n b : ℕ) (bs : List ℕ) (upto : ℕ) → n ≤ length (b ∷ bs) → i + length (b ∷ bs) ≡ upto → i + n + length (drop n (b ∷ bs)) ≡ upto
rest_ends i n b bs upto le e = omega (arith, length-drop n (b ∷ bs), le, e)

pub tokens_stand : {bs : List ℕ} {i : ℕ} {ts : List Token} → Lexes bs i ts → (from upto : ℕ) → from ≤ i → i + length bs ≡ upto → Stand from ts upto
tokens_stand (lexes_end {i = i}) from upto le e = (record { start = le; end = omega arith; some = λ h. absurd (omega (arith, h)) }, omega (arith, e))
tokens_stand (lexes_blank {b = b} {i = i} {n = n} {bs = bs} p l) from upto le e =
    let size = size_of b bs (Blank n) p in
    tokens_stand l from upto (omega (arith, le)) (rest_ends i n b bs upto size.1 e)
tokens_stand (lexes_token {b = b} {i = i} {n = n} {value = value} {bs = bs} {k = k} p l) from upto le e =
    let size = size_of b bs (Lexeme k n value) p in
    (record { start = le; end = omega arith; some = λ h. omega (arith, size.0) }, tokens_stand l (i + n) upto (omega arith) (rest_ends i n b bs upto size.1 e))

pub stand_within : (ts : List Token) (from upto : ℕ) → Stand from ts upto → from ≤ upto
stand_within [] from upto s = s
stand_within (t ∷ ts) from upto s = let le = stand_within ts t.span.end upto s.1 in omega (arith, le, s.0.start, s.0.end)

-- ---- parts of the grammar

abbrev pub Made : Ebnf Symbol → List Token → List Token → Tree Token → Type 0
Made e ts rest x = Makes Symbol Token rule (λ t. code_of t.kind) e ts rest x

-- what was read from the offset on took some bytes, and the tokens behind it stand in order
pub record Took (from bytes : ℕ) (rest : List Token) (upto : ℕ) : Type 0 where
  pub now : ℕ
  pub stand : Stand now rest upto
  pub took : from + bytes ≤ now

-- one part, and one behind it
pub and_then : (from m n : ℕ) (mid rest : List Token) (upto : ℕ) (a : Took from m mid upto) → Took a.now n rest upto → Took from (m + n) rest upto
and_then from m n mid rest upto a b = record { now = b.now; stand = b.stand; took = omega (arith, a.took, b.took) }

pub at_least : (from m n : ℕ) (rest : List Token) (upto : ℕ) → Took from m rest upto → n ≤ m → Took from n rest upto
at_least from m n rest upto a le = record { now = a.now; stand = a.stand; took = omega (arith, a.took, le) }

-- whatever was read, the tokens behind it stand in order
pub behind : {e : Ebnf Symbol} {ts rest : List Token} {x : Tree Token} → Made e ts rest x → (from upto : ℕ) → Stand from ts upto → Took from 0 rest upto
behind (m-tok {t = t} e) from upto s = record { now = t.span.end; stand = s.1; took = omega (arith, s.0.start, s.0.end) }
behind (m-sym g) from upto s = behind g from upto s
behind m-eps from upto s = record { now = from; stand = s; took = omega arith }
behind (m-seq {mid = mid} {rest = rest} g h) from upto s = let a = behind g from upto s in and_then from 0 0 mid rest upto a (behind h a.now upto a.stand)
behind (m-left g) from upto s = behind g from upto s
behind (m-right g) from upto s = behind g from upto s
behind m-stop from upto s = record { now = from; stand = s; took = omega arith }
behind (m-more {mid = mid} {rest = rest} g h) from upto s = let a = behind g from upto s in and_then from 0 0 mid rest upto a (behind h a.now upto a.stand)
