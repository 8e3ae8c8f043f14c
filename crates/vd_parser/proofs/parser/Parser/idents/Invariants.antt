use Rattle.std.proofs.Common.{length}
use Rattle.vd_source_lexer.specs.Grammar.{Seq}
use Rattle.vd_source_lexer.specs.Reading.{Collects}
use Rattle.vd_source_lexer.specs.declared.token.TokenKind.TheVariants as kind
use Rattle.vd_parser.specs.Language.{tok, commas}
use Rattle.vd_parser.specs.Syntax.{idents_of, more_idents_of}
use Rattle.vd_parser.specs.Parsing.{language}
use Rattle.vd_parser.proofs.parser.Parser.idents.Given as goal

abbrev pub invariant-rest : goal.invariant-rest
invariant-rest l = Collects language (commas (tok kind.Name)) (idents_of l.self.text.now) (Seq (tok kind.Comma) (tok kind.Name)) (more_idents_of l.self.text.now) l.fn.cursor l.cursor l.names

abbrev pub decreases-rest : goal.decreases-rest
decreases-rest l = length l.cursor
