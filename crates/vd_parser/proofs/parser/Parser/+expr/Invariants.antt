use Rattle.std.proofs.Common.{◌≡◌, ℕ, length, ◌+◌, ◌-◌, ◌*◌}
use Rattle.vd_source_lexer.specs.Grammar.{Sym, Seq, Star}
use Rattle.vd_source_lexer.specs.Reading.{Collects}
use Rattle.vd_source_lexer.specs.declared.token.TokenKind.TheVariants as kind
use Rattle.vd_parser.specs.declared.operators.Level.{Level}
use Rattle.vd_parser.specs.declared.operators.Level.TheVariants as level
use Rattle.vd_parser.specs.Language.{tok, commas, EXPR, shift_ops}
use Rattle.vd_parser.specs.Levels.{ops_of, operand_symbol, segments_of}
use Rattle.vd_parser.specs.Syntax.{exprs_of, more_exprs_of, shift_segments_of}
use Rattle.vd_parser.specs.Parsing.{language}
use Rattle.vd_parser.proofs.parser.Parser.+expr.Given as goal

-- the looser a level, the greater
abbrev rank : Level → ℕ
rank level.Or = 18
rank level.Xor = 16
rank level.And = 14
rank level.Sum = 10
rank level.Product = 8

abbrev pub decreases-exprs : goal.decreases-exprs
decreases-exprs l = 32 * length l.cursor.now + 21

abbrev pub decreases-expr : goal.decreases-expr
decreases-expr l = 32 * length l.cursor.now + 20

abbrev pub decreases-boxed : goal.decreases-boxed
decreases-boxed l = 32 * length l.cursor.now + 21

abbrev pub decreases-chain : goal.decreases-chain
decreases-chain l = 32 * length l.cursor.now + rank l.level

abbrev pub decreases-operand : goal.decreases-operand
decreases-operand l = 32 * length l.cursor.now + rank l.level - 1

abbrev pub decreases-shift : goal.decreases-shift
decreases-shift l = 32 * length l.cursor.now + 12

abbrev pub decreases-unary : goal.decreases-unary
decreases-unary l = 32 * length l.cursor.now + 6

abbrev pub decreases-atom : goal.decreases-atom
decreases-atom l = 32 * length l.cursor.now + 5

abbrev pub decreases-word_atom : goal.decreases-word_atom
decreases-word_atom l = 32 * length l.cursor.now + 4

abbrev pub decreases-other_atom : goal.decreases-other_atom
decreases-other_atom l = 32 * length l.cursor.now + 3

abbrev pub decreases-named : goal.decreases-named
decreases-named l = 32 * length l.cursor.now + 3

abbrev pub decreases-arguments : goal.decreases-arguments
decreases-arguments l = 32 * length l.cursor.now + 22

abbrev pub decreases-index : goal.decreases-index
decreases-index l = 32 * length l.cursor.now

abbrev pub decreases-two : goal.decreases-two
decreases-two l = 32 * length l.cursor.now

abbrev pub decreases-three : goal.decreases-three
decreases-three l = 32 * length l.cursor.now

abbrev pub decreases-relabelled : goal.decreases-relabelled
decreases-relabelled l = 32 * length l.cursor.now

abbrev pub invariant-chain-segments : goal.invariant-chain-segments
invariant-chain-segments l = record {
  same : l.first ≡ l.initial.first;
  collects : Collects language (Star (Seq (ops_of l.level) (Sym (operand_symbol l.level)))) (segments_of l.level l.self.text.now) (Seq (ops_of l.level) (Sym (operand_symbol l.level))) (segments_of l.level l.self.text.now) l.initial.cursor l.cursor l.segments;
}

abbrev pub decreases-chain-segments : goal.decreases-chain-segments
decreases-chain-segments l = length l.cursor

abbrev pub invariant-shift-segments : goal.invariant-shift-segments
invariant-shift-segments l = record {
  same : l.first ≡ l.initial.first;
  collects : Collects language (Star (Seq shift_ops (tok kind.Number))) (shift_segments_of l.self.text.now) (Seq shift_ops (tok kind.Number)) (shift_segments_of l.self.text.now) l.initial.cursor l.cursor l.segments;
}

abbrev pub decreases-shift-segments : goal.decreases-shift-segments
decreases-shift-segments l = length l.cursor

abbrev pub invariant-exprs-rest : goal.invariant-exprs-rest
invariant-exprs-rest l = Collects language (commas (Sym EXPR)) (exprs_of l.self.text.now) (Seq (tok kind.Comma) (Sym EXPR)) (more_exprs_of l.self.text.now) l.fn.cursor l.cursor l.exprs

abbrev pub decreases-exprs-rest : goal.decreases-exprs-rest
decreases-exprs-rest l = length l.cursor
