use Rattle.std.proofs.Common.{◌≡◌, refl, Some, slice_get}
use Rattle.vd_source_lexer.specs.Kinds.{code_of}
use Rattle.vd_source_lexer.specs.declared.token.TokenKind.{TokenKind}
use Rattle.vd_source_lexer.specs.declared.token.TokenKind.TheVariants as kind
use Rattle.vd_source_lexer.specs.SourceSpellingKinds.{all_kinds}
use Rattle.vd_source_lexer.proofs.source_spelling.kinds.kinds_are_all.Goals as goal

at_its_number : (k : TokenKind) → slice_get all_kinds (code_of k) ≡ Some k
unfolding all_kinds
at_its_number kind.End = refl
at_its_number kind.Name = refl
at_its_number kind.Number = refl
at_its_number kind.Principals = refl
at_its_number kind.Host = refl
at_its_number kind.Fun = refl
at_its_number kind.Return = refl
at_its_number kind.Main = refl
at_its_number kind.Let = refl
at_its_number kind.Var = refl
at_its_number kind.If = refl
at_its_number kind.Else = refl
at_its_number kind.For = refl
at_its_number kind.To = refl
at_its_number kind.Output = refl
at_its_number kind.Input = refl
at_its_number kind.Declassify = refl
at_its_number kind.Endorse = refl
at_its_number kind.Word = refl
at_its_number kind.Bool = refl
at_its_number kind.True = refl
at_its_number kind.False = refl
at_its_number kind.Min = refl
at_its_number kind.Max = refl
at_its_number kind.Mux = refl
at_its_number kind.Any = refl
at_its_number kind.Nothing = refl
at_its_number kind.All = refl
at_its_number kind.Array = refl
at_its_number kind.EqualEqual = refl
at_its_number kind.NotEqual = refl
at_its_number kind.LessEqual = refl
at_its_number kind.GreaterEqual = refl
at_its_number kind.ShiftLeft = refl
at_its_number kind.ShiftRight = refl
at_its_number kind.Assign = refl
at_its_number kind.OpenBrace = refl
at_its_number kind.CloseBrace = refl
at_its_number kind.OpenParen = refl
at_its_number kind.CloseParen = refl
at_its_number kind.OpenBracket = refl
at_its_number kind.CloseBracket = refl
at_its_number kind.Semicolon = refl
at_its_number kind.Colon = refl
at_its_number kind.Comma = refl
at_its_number kind.Equal = refl
at_its_number kind.Plus = refl
at_its_number kind.Minus = refl
at_its_number kind.Star = refl
at_its_number kind.Slash = refl
at_its_number kind.Percent = refl
at_its_number kind.Ampersand = refl
at_its_number kind.Pipe = refl
at_its_number kind.Caret = refl
at_its_number kind.Bang = refl
at_its_number kind.Tilde = refl
at_its_number kind.Less = refl
at_its_number kind.Greater = refl

pub returns : goal.returns
returns c = at_its_number
