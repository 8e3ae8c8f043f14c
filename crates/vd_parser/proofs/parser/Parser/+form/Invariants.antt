use Rattle.std.proofs.Common.{◌≡◌, length, ◌+◌, ◌*◌}
use Rattle.vd_source_lexer.specs.Grammar.{Sym, Seq, Star}
use Rattle.vd_source_lexer.specs.Reading.{Collects}
use Rattle.vd_source_lexer.specs.declared.token.TokenKind.TheVariants as kind
use Rattle.vd_parser.specs.Language.{tok, CONJ, FATOM}
use Rattle.vd_parser.specs.Syntax.{conjs_of, fatoms_of}
use Rattle.vd_parser.specs.Parsing.{language}
use Rattle.vd_parser.proofs.parser.Parser.+form.Given as goal

abbrev pub decreases-form : goal.decreases-form
decreases-form l = 3 * length l.cursor.now + 2

abbrev pub decreases-conj : goal.decreases-conj
decreases-conj l = 3 * length l.cursor.now + 1

abbrev pub decreases-fatom : goal.decreases-fatom
decreases-fatom l = 3 * length l.cursor.now

abbrev pub invariant-form-parts : goal.invariant-form-parts
invariant-form-parts l = record { same : l.first ≡ l.initial.first; collects : Collects language (Star (Seq (tok kind.Pipe) (Sym CONJ))) (conjs_of l.self.text.now) (Seq (tok kind.Pipe) (Sym CONJ)) (conjs_of l.self.text.now) l.initial.cursor l.cursor l.rest }

abbrev pub decreases-form-parts : goal.decreases-form-parts
decreases-form-parts l = length l.cursor

abbrev pub invariant-conj-parts : goal.invariant-conj-parts
invariant-conj-parts l = record { same : l.first ≡ l.initial.first; collects : Collects language (Star (Seq (tok kind.Ampersand) (Sym FATOM))) (fatoms_of l.self.text.now) (Seq (tok kind.Ampersand) (Sym FATOM)) (fatoms_of l.self.text.now) l.initial.cursor l.cursor l.rest }

abbrev pub decreases-conj-parts : goal.decreases-conj-parts
decreases-conj-parts l = length l.cursor
