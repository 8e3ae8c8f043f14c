-- The levels of precedence: their operators and the symbols of the grammar.
use Rattle.std.specs.Prelude.{ℕ, Bool, ◌||◌, List, Option, Some, None, nat_eq, if◌then◌else◌}
use Rattle.vd_source_lexer.specs.Grammar.{Ebnf}
use Rattle.vd_source_lexer.specs.Trees.{Tree}
use Rattle.vd_core.specs.declared.source.Prefix.{Prefix}
use Rattle.vd_core.specs.declared.source.Prefix.TheVariants as prefix
use Rattle.vd_core.specs.declared.source.Infix.{Infix}
use Rattle.vd_core.specs.declared.source.Infix.TheVariants as op
use Rattle.vd_core.specs.declared.source.Direction.{Direction}
use Rattle.vd_core.specs.declared.source.Direction.TheVariants as direction
use Rattle.vd_core.specs.declared.source.Expr.{Expr}
use Rattle.vd_core.specs.declared.source.Segment.{Segment}
use Rattle.vd_source_lexer.specs.Kinds.{code_of}
use Rattle.vd_source_lexer.specs.declared.token.TokenKind.{TokenKind}
use Rattle.vd_source_lexer.specs.declared.token.TokenKind.TheVariants as kind
use Rattle.vd_source_lexer.specs.declared.token.Token.{Token}
use Rattle.vd_parser.specs.declared.operators.Level.{Level}
use Rattle.vd_parser.specs.declared.operators.Level.TheVariants as level
use Rattle.vd_parser.specs.Language.{Symbol, BOR, BXOR, BAND, SHIFT, SUM, PROD, UNARY, tok, sum_ops, product_ops}
use Rattle.vd_parser.specs.Syntax.{bor_of, bor_segments_of, bxor_of, bxor_segments_of, band_of, band_segments_of, shift_of, sum_of, sum_segments_of, prod_of, prod_segments_of, unary_of}

abbrev pub is_kind : TokenKind → TokenKind → Bool
is_kind k l = nat_eq (code_of k) (code_of l)

-- the operator that a token of this kind is
abbrev pub comparison_at : TokenKind → Option Infix
comparison_at k =
    if is_kind k kind.EqualEqual then Some op.Equal
    else if is_kind k kind.NotEqual then Some op.NotEqual
    else if is_kind k kind.Less then Some op.Less
    else if is_kind k kind.LessEqual then Some op.LessEqual
    else if is_kind k kind.Greater then Some op.Greater
    else if is_kind k kind.GreaterEqual then Some op.GreaterEqual
    else None

abbrev pub infix_at : Level → TokenKind → Option Infix
infix_at level.Or k = if is_kind k kind.Pipe then Some op.Or else None
infix_at level.Xor k = if is_kind k kind.Caret then Some op.Xor else None
infix_at level.And k = if is_kind k kind.Ampersand then Some op.And else None
infix_at level.Sum k = if is_kind k kind.Plus then Some op.Add else if is_kind k kind.Minus then Some op.Sub else None
infix_at level.Product k =
    if is_kind k kind.Star then Some op.Mul
    else if is_kind k kind.Slash then Some op.Div
    else if is_kind k kind.Percent then Some op.Rem
    else None

-- whether a statement can begin with a token of this kind
abbrev pub begins_statement : TokenKind → Bool
begins_statement k =
    ((((((is_kind k kind.Let || is_kind k kind.Var) || is_kind k kind.Array) || is_kind k kind.Name) || is_kind k kind.Output) || is_kind k kind.If) || is_kind k kind.For)

abbrev pub prefix_at : TokenKind → Option Prefix
prefix_at k = if is_kind k kind.Bang then Some prefix.Flip else if is_kind k kind.Tilde then Some prefix.Not else None

abbrev pub direction_at : TokenKind → Option Direction
direction_at k = if is_kind k kind.ShiftLeft then Some direction.Left else if is_kind k kind.ShiftRight then Some direction.Right else None

-- the tokens that are a level's operators
abbrev pub ops_of : Level → Ebnf Symbol
ops_of level.Or = tok kind.Pipe
ops_of level.Xor = tok kind.Caret
ops_of level.And = tok kind.Ampersand
ops_of level.Sum = sum_ops
ops_of level.Product = product_ops

-- the symbol of a level, what its texts stand for, and the same of its operands and its segments
abbrev pub symbol_of : Level → Symbol
symbol_of level.Or = BOR
symbol_of level.Xor = BXOR
symbol_of level.And = BAND
symbol_of level.Sum = SUM
symbol_of level.Product = PROD

abbrev pub operand_symbol : Level → Symbol
operand_symbol level.Or = BXOR
operand_symbol level.Xor = BAND
operand_symbol level.And = SHIFT
operand_symbol level.Sum = PROD
operand_symbol level.Product = UNARY

abbrev pub level_of : Level → List ℕ → Tree Token → Expr
level_of level.Or = bor_of
level_of level.Xor = bxor_of
level_of level.And = band_of
level_of level.Sum = sum_of
level_of level.Product = prod_of

abbrev pub operand_of : Level → List ℕ → Tree Token → Expr
operand_of level.Or = bxor_of
operand_of level.Xor = band_of
operand_of level.And = shift_of
operand_of level.Sum = prod_of
operand_of level.Product = unary_of

abbrev pub segments_of : Level → List ℕ → Tree Token → List Segment
segments_of level.Or = bor_segments_of
segments_of level.Xor = bxor_segments_of
segments_of level.And = band_segments_of
segments_of level.Sum = sum_segments_of
segments_of level.Product = prod_segments_of
