-- The kinds of tokens in the order of their numbers.
use Rattle.std.specs.Prelude.{List, [], ◌∷◌}
use Rattle.vd_source_lexer.specs.declared.token.TokenKind.{TokenKind}
use Rattle.vd_source_lexer.specs.declared.token.TokenKind.TheVariants as kind

unfoldable pub all_kinds : List TokenKind
all_kinds =
    kind.End ∷ kind.Name ∷ kind.Number ∷ kind.Principals ∷ kind.Host ∷ kind.Fun ∷ kind.Return ∷ kind.Main ∷ kind.Let ∷
    kind.Var ∷ kind.If ∷ kind.Else ∷ kind.For ∷ kind.To ∷ kind.Output ∷ kind.Input ∷ kind.Declassify ∷ kind.Endorse ∷
    kind.Word ∷ kind.Bool ∷ kind.True ∷ kind.False ∷ kind.Min ∷ kind.Max ∷ kind.Mux ∷ kind.Any ∷ kind.Nothing ∷
    kind.All ∷ kind.Array ∷ kind.EqualEqual ∷ kind.NotEqual ∷ kind.LessEqual ∷ kind.GreaterEqual ∷ kind.ShiftLeft ∷
    kind.ShiftRight ∷ kind.Assign ∷ kind.OpenBrace ∷ kind.CloseBrace ∷ kind.OpenParen ∷ kind.CloseParen ∷
    kind.OpenBracket ∷ kind.CloseBracket ∷ kind.Semicolon ∷ kind.Colon ∷ kind.Comma ∷ kind.Equal ∷ kind.Plus ∷
    kind.Minus ∷ kind.Star ∷ kind.Slash ∷ kind.Percent ∷ kind.Ampersand ∷ kind.Pipe ∷ kind.Caret ∷ kind.Bang ∷
    kind.Tilde ∷ kind.Less ∷ kind.Greater ∷ []
