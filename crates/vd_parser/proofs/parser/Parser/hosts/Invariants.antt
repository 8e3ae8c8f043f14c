use Rattle.std.proofs.Common.{length}
use Rattle.vd_source_lexer.specs.Grammar.{Sym}
use Rattle.vd_source_lexer.specs.Reading.{Collects}
use Rattle.vd_parser.specs.Language.{hosts_rule, HOST}
use Rattle.vd_parser.specs.Syntax.{host_list_of, hosts_of}
use Rattle.vd_parser.specs.Parsing.{language}
use Rattle.vd_parser.proofs.parser.Parser.hosts.Given as goal

abbrev pub invariant-rest : goal.invariant-rest
invariant-rest l = Collects language hosts_rule (host_list_of l.self.text.now) (Sym HOST) (hosts_of l.self.text.now) l.fn.cursor l.cursor l.hosts

abbrev pub decreases-rest : goal.decreases-rest
decreases-rest l = length l.cursor
