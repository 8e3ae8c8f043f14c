use Rattle.std.proofs.Common.{length}
use Rattle.vd_source_lexer.specs.Grammar.{Star}
use Rattle.vd_source_lexer.specs.Reading.{Collects}
use Rattle.vd_parser.specs.Language.{prefix_ops}
use Rattle.vd_parser.specs.Syntax.{prefixes_of}
use Rattle.vd_parser.specs.Parsing.{language}
use Rattle.vd_parser.proofs.parser.Parser.prefixes.Given as goal

abbrev pub invariant-prefixes : goal.invariant-prefixes
invariant-prefixes l = Collects language (Star prefix_ops) prefixes_of prefix_ops prefixes_of l.fn.cursor l.cursor l.prefixes

abbrev pub decreases-prefixes : goal.decreases-prefixes
decreases-prefixes l = length l.cursor
