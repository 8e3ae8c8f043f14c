-- The keywords and the symbols with the kinds of their tokens.
use Rattle.std.specs.Prelude.{ℕ, List, [], ◌∷◌, codes, map}
use Rattle.std.specs.Borrow.{Bor}
use Rattle.vd_source_lexer.specs.declared.token.TokenKind.{TokenKind}
use Rattle.vd_source_lexer.specs.declared.token.TokenKind.TheVariants as kind

unfoldable pub keyword_kinds : List (List ℕ × TokenKind)
keyword_kinds =
    (codes "principals", kind.Principals) ∷ (codes "host", kind.Host) ∷ (codes "fun", kind.Fun)
    ∷ (codes "return", kind.Return) ∷ (codes "main", kind.Main) ∷ (codes "let", kind.Let)
    ∷ (codes "var", kind.Var) ∷ (codes "if", kind.If) ∷ (codes "else", kind.Else)
    ∷ (codes "for", kind.For) ∷ (codes "to", kind.To) ∷ (codes "output", kind.Output)
    ∷ (codes "input", kind.Input) ∷ (codes "declassify", kind.Declassify)
    ∷ (codes "endorse", kind.Endorse) ∷ (codes "word", kind.Word) ∷ (codes "bool", kind.Bool)
    ∷ (codes "true", kind.True) ∷ (codes "false", kind.False) ∷ (codes "min", kind.Min)
    ∷ (codes "max", kind.Max) ∷ (codes "mux", kind.Mux) ∷ (codes "any", kind.Any)
    ∷ (codes "none", kind.Nothing) ∷ (codes "all", kind.All) ∷ (codes "array", kind.Array) ∷ []

-- the longest first
unfoldable pub symbol_kinds : List (List ℕ × TokenKind)
symbol_kinds =
    (codes "==", kind.EqualEqual) ∷ (codes "!=", kind.NotEqual) ∷ (codes "<=", kind.LessEqual)
    ∷ (codes ">=", kind.GreaterEqual) ∷ (codes "<<", kind.ShiftLeft)
    ∷ (codes ">>", kind.ShiftRight) ∷ (codes ":=", kind.Assign) ∷ (codes "{", kind.OpenBrace)
    ∷ (codes "}", kind.CloseBrace) ∷ (codes "(", kind.OpenParen) ∷ (codes ")", kind.CloseParen)
    ∷ (codes "[", kind.OpenBracket) ∷ (codes "]", kind.CloseBracket) ∷ (codes ";", kind.Semicolon)
    ∷ (codes ":", kind.Colon) ∷ (codes ",", kind.Comma) ∷ (codes "=", kind.Equal)
    ∷ (codes "+", kind.Plus) ∷ (codes "-", kind.Minus) ∷ (codes "*", kind.Star)
    ∷ (codes "/", kind.Slash) ∷ (codes "%", kind.Percent) ∷ (codes "&", kind.Ampersand)
    ∷ (codes "|", kind.Pipe) ∷ (codes "^", kind.Caret) ∷ (codes "!", kind.Bang)
    ∷ (codes "~", kind.Tilde) ∷ (codes "<", kind.Less) ∷ (codes ">", kind.Greater) ∷ []

-- a table that has its texts behind references
abbrev pub entries : List (Bor (List ℕ) × TokenKind) → List (List ℕ × TokenKind)
entries = map (λ entry. (entry.0.now, entry.1))
