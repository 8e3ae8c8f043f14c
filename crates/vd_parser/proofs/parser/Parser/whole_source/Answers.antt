use Rattle.std.proofs.Common.{sym, ◌∙◌}
use Rattle.std.proofs.lemmas.Result.{err_from_is_err_and}
use Rattle.std.proofs.Common.{eqb-true}
use Rattle.vd_source_lexer.specs.declared.token.TokenKind.TheVariants as kind
use Rattle.vd_parser.proofs.Steps.{next, not_took, refused_first, refused_last, start}
use Rattle.vd_parser.proofs.Outcomes.{whole_text}
use Rattle.vd_parser.proofs.parser.Parser.whole_source.Goals as goal

pub returns-in_err-source : goal.returns-in_err-source
returns-in_err-source c =
    let p = err_from_is_err_and c.from_residual.result c.from_residual.ensures.1 in
    rw (p.1, p.2) (refused_first start c.in_err-source.ensures)

pub returns-then-is : goal.returns-then-is
returns-then-is c = whole_text c.requires c.in_ok-source.ensures (eqb-true _ _ (sym c.is.ensures ∙ c.if-is.true))

pub returns-else-is : goal.returns-else-is
returns-else-is c = refused_last (next start c.in_ok-source.ensures) (not_took kind.End _ (sym c.is.ensures ∙ c.if-is.false))
