use Rattle.std.proofs.Common.{sym, ◌∙◌}
use Rattle.std.proofs.lemmas.Result.{err_from_is_err_and}
use Rattle.vd_source_lexer.specs.declared.token.TokenKind.TheVariants as kind
use Rattle.vd_parser.proofs.Steps.{collects_first, end_after, more_after, next, refused_first, start, stop_after}
use Rattle.vd_parser.proofs.Meanings.{parameters_first, parameters_more, parameters_none}
use Rattle.vd_parser.proofs.parser.Parser.parameter_list.Goals as goal

pub returns-in_err-first : goal.returns-in_err-first
returns-in_err-first c =
    let p = err_from_is_err_and c.from_residual.result c.from_residual.ensures.1 in
    rw (p.1, p.2) (refused_first start c.in_err-first.ensures)

pub rest-init : goal.rest-init
rest-init c =
    rw (c.in_ok-push.ensures.ok, c.new-parameters.ensures) (collects_first (next start c.in_ok-first.ensures) (parameters_first _ _ _ c.in_ok-first.ensures.value))

pub returns-in_err-parameter : goal.returns-in_err-parameter
returns-in_err-parameter c =
    let p = err_from_is_err_and c.from_residual-in_err-parameter.result c.from_residual-in_err-parameter.ensures.1 in
    rw (p.1, p.2) (stop_after kind.Comma c.rest.invariant (sym c.is.ensures ∙ c.rest-test.true) c.advance-comma.ensures c.in_err-parameter.ensures)

pub rest-preserved : goal.rest-preserved
rest-preserved c =
    rw c.in_ok-push-2.ensures.ok (more_after kind.Comma c.rest.invariant (sym c.is.ensures ∙ c.rest-test.true) c.advance-comma.ensures c.in_ok-parameter.ensures (parameters_more _ _ _ c.in_ok-parameter.ensures.value))

pub returns : goal.returns
returns c =
    end_after kind.Comma c.rest.invariant (sym c.is.ensures ∙ c.rest-test.false) (parameters_none _)
