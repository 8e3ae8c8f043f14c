use Rattle.std.proofs.Common.{length}
use Rattle.vd_source_lexer.specs.Grammar.{Sym, Star}
use Rattle.vd_source_lexer.specs.Reading.{Collects}
use Rattle.vd_parser.specs.Language.{FUN}
use Rattle.vd_parser.specs.Syntax.{functions_of}
use Rattle.vd_parser.specs.Parsing.{language}
use Rattle.vd_parser.proofs.parser.Parser.functions.Given as goal

abbrev pub invariant-all : goal.invariant-all
invariant-all l = Collects language (Star (Sym FUN)) (functions_of l.self.text.now) (Sym FUN) (functions_of l.self.text.now) l.fn.cursor l.cursor l.functions

abbrev pub decreases-all : goal.decreases-all
decreases-all l = length l.cursor
