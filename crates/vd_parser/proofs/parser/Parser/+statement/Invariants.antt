use Rattle.std.proofs.Common.{length, ◌+◌, ◌*◌}
use Rattle.vd_source_lexer.specs.Grammar.{Sym, Star}
use Rattle.vd_source_lexer.specs.Reading.{Collects}
use Rattle.vd_parser.specs.Language.{STMT}
use Rattle.vd_parser.specs.Syntax.{statements_of}
use Rattle.vd_parser.specs.Parsing.{language}
use Rattle.vd_parser.proofs.parser.Parser.+statement.Given as goal

abbrev pub decreases-block : goal.decreases-block
decreases-block l = 8 * length l.cursor.now

abbrev pub decreases-else_block : goal.decreases-else_block
decreases-else_block l = 8 * length l.cursor.now

abbrev pub decreases-statements : goal.decreases-statements
decreases-statements l = 8 * length l.cursor.now + 4

abbrev pub decreases-statement : goal.decreases-statement
decreases-statement l = 8 * length l.cursor.now + 2

abbrev pub decreases-if_statement : goal.decreases-if_statement
decreases-if_statement l = 8 * length l.cursor.now + 1

abbrev pub decreases-for_statement : goal.decreases-for_statement
decreases-for_statement l = 8 * length l.cursor.now + 1

abbrev pub invariant-statements-all : goal.invariant-statements-all
invariant-statements-all l = Collects language (Star (Sym STMT)) (statements_of l.self.text.now) (Sym STMT) (statements_of l.self.text.now) l.fn.cursor l.cursor l.statements

abbrev pub decreases-statements-all : goal.decreases-statements-all
decreases-statements-all l = length l.cursor
