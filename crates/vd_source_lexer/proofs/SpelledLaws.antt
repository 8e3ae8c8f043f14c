-- The tokens of a spelled text have the kinds that were asked for.
use Rattle.std.proofs.Common.{◌≡◌, ◌≢◌, ℕ, suc, ◌+◌, ◌<◌, ◌^◌, List, [], ◌∷◌, ◌++◌, length, drop, map, refl, sym, ap, ◌∙◌, subst, arith, codes, length-append}
use Rattle.vd_source_lexer.specs.Kinds.{code_of}
use Rattle.vd_source_lexer.specs.Tables.{keyword_kinds, symbol_kinds}
use Rattle.vd_source_lexer.specs.Tokens.{first_piece, token_at, Lexes, lexes_end, lexes_blank, lexes_token, kinds}
use Rattle.vd_source_lexer.specs.declared.piece.Piece.TheVariants.{Blank, Lexeme}
use Rattle.vd_source_lexer.specs.declared.token.Token.{Token}
use Rattle.vd_source_lexer.specs.declared.token.TokenKind.{TokenKind}
use Rattle.vd_source_lexer.specs.declared.token.TokenKind.TheVariants as kind
use Rattle.vd_source_lexer.specs.Texts.{text_of_kind}
use Rattle.vd_source_lexer.specs.Spelled.{HasNoEnd, spelled, HasKinds}

-- the token at the front, before a blank
piece_of : (k : TokenKind) (rest : List ℕ) → code_of k ≢ 0 → first_piece (text_of_kind k ++ 32 ∷ rest) ≡ Lexeme k (length (text_of_kind k)) 0
unfolding first_piece keyword_kinds symbol_kinds
piece_of kind.End rest some = absurd (some refl)
piece_of kind.Name rest some = refl
piece_of kind.Number rest some = refl
piece_of kind.Principals rest some = refl
piece_of kind.Host rest some = refl
piece_of kind.Fun rest some = refl
piece_of kind.Return rest some = refl
piece_of kind.Main rest some = refl
piece_of kind.Let rest some = refl
piece_of kind.Var rest some = refl
piece_of kind.If rest some = refl
piece_of kind.Else rest some = refl
piece_of kind.For rest some = refl
piece_of kind.To rest some = refl
piece_of kind.Output rest some = refl
piece_of kind.Input rest some = refl
piece_of kind.Declassify rest some = refl
piece_of kind.Endorse rest some = refl
piece_of kind.Word rest some = refl
piece_of kind.Bool rest some = refl
piece_of kind.True rest some = refl
piece_of kind.False rest some = refl
piece_of kind.Min rest some = refl
piece_of kind.Max rest some = refl
piece_of kind.Mux rest some = refl
piece_of kind.Any rest some = refl
piece_of kind.Nothing rest some = refl
piece_of kind.All rest some = refl
piece_of kind.Array rest some = refl
piece_of kind.EqualEqual rest some = refl
piece_of kind.NotEqual rest some = refl
piece_of kind.LessEqual rest some = refl
piece_of kind.GreaterEqual rest some = refl
piece_of kind.ShiftLeft rest some = refl
piece_of kind.ShiftRight rest some = refl
piece_of kind.Assign rest some = refl
piece_of kind.OpenBrace rest some = refl
piece_of kind.CloseBrace rest some = refl
piece_of kind.OpenParen rest some = refl
piece_of kind.CloseParen rest some = refl
piece_of kind.OpenBracket rest some = refl
piece_of kind.CloseBracket rest some = refl
piece_of kind.Semicolon rest some = refl
piece_of kind.Colon rest some = refl
piece_of kind.Comma rest some = refl
piece_of kind.Equal rest some = refl
piece_of kind.Plus rest some = refl
piece_of kind.Minus rest some = refl
piece_of kind.Star rest some = refl
piece_of kind.Slash rest some = refl
piece_of kind.Percent rest some = refl
piece_of kind.Ampersand rest some = refl
piece_of kind.Pipe rest some = refl
piece_of kind.Caret rest some = refl
piece_of kind.Bang rest some = refl
piece_of kind.Tilde rest some = refl
piece_of kind.Less rest some = refl
piece_of kind.Greater rest some = refl

blank_at : (rest : List ℕ) → first_piece (32 ∷ rest) ≡ Blank 1
unfolding first_piece
blank_at rest = refl

behind : (xs ys : List ℕ) → drop (length xs) (xs ++ ys) ≡ ys
behind [] ys = refl
behind (x ∷ xs) ys = behind xs ys

-- a token at the front of any text that is not empty
lexes_front : (text : List ℕ) (i n value : ℕ) (k : TokenKind) (ts : List Token) → 0 < length text → first_piece text ≡ Lexeme k n value → Lexes (drop n text) (i + n) ts → Lexes text i (token_at k i n value ∷ ts)
lexes_front [] i n value k ts some e l = absurd (omega (arith, some))
lexes_front (b ∷ bs) i n value k ts some e l = lexes_token e l

not_empty : (xs ys : List ℕ) → 0 < length (xs ++ 32 ∷ ys)
not_empty xs ys = let e : length (xs ++ 32 ∷ ys) ≡ length xs + suc (length ys) = length-append xs (32 ∷ ys) in omega (arith, e)

record Spelling (ks : List TokenKind) (i : ℕ) : Type 0 where
  tokens : List Token
  lexes : Lexes (spelled ks) i tokens
  are : kinds tokens ≡ map code_of ks ++ 0 ∷ []

spelling : (ks : List TokenKind) (i : ℕ) → HasNoEnd ks → Spelling ks i
spelling [] i none = record { tokens = token_at kind.End i 0 0 ∷ []; lexes = lexes_end; are = refl }
spelling (k ∷ ks) i none =
    let n = length (text_of_kind k) in
    let r = spelling ks (i + n + 1) none.1 in
    let blank : Lexes (32 ∷ spelled ks) (i + n) r.tokens = lexes_blank (blank_at (spelled ks)) r.lexes in
    record {
      tokens = token_at k i n 0 ∷ r.tokens;
      lexes = lexes_front (text_of_kind k ++ 32 ∷ spelled ks) i n 0 k r.tokens (not_empty (text_of_kind k) (spelled ks)) (piece_of k (spelled ks) none.0)
          (subst (λ text. Lexes text (i + n) r.tokens) (sym (behind (text_of_kind k) (32 ∷ spelled ks))) blank);
      are = ap (λ xs. code_of k ∷ xs) r.are;
    }

has_kinds : (ks : List TokenKind) → HasNoEnd ks → HasKinds (spelled ks) ks
has_kinds ks none = let r = spelling ks 0 none in record { tokens = r.tokens; lexes = r.lexes; are = r.are }

pub given : (text : List ℕ) (ks : List TokenKind) → HasNoEnd ks → text ≡ spelled ks → HasKinds text ks
given text ks none e = subst (λ t. HasKinds t ks) (sym e) (has_kinds ks none)
