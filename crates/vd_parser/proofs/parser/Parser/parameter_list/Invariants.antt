use Rattle.std.proofs.Common.{length}
use Rattle.vd_source_lexer.specs.Grammar.{Sym, Seq}
use Rattle.vd_source_lexer.specs.Reading.{Collects}
use Rattle.vd_source_lexer.specs.declared.token.TokenKind.TheVariants as kind
use Rattle.vd_parser.specs.Language.{tok, commas, PARAM}
use Rattle.vd_parser.specs.Syntax.{parameter_list_of, more_parameters_of}
use Rattle.vd_parser.specs.Parsing.{language}
use Rattle.vd_parser.proofs.parser.Parser.parameter_list.Given as goal

abbrev pub invariant-rest : goal.invariant-rest
invariant-rest l = Collects language (commas (Sym PARAM)) (parameter_list_of l.self.text.now) (Seq (tok kind.Comma) (Sym PARAM)) (more_parameters_of l.self.text.now) l.fn.cursor l.cursor l.parameters

abbrev pub decreases-rest : goal.decreases-rest
decreases-rest l = length l.cursor
