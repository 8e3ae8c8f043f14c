use Rattle.std.proofs.Common.{sym, ◌∙◌}
use Rattle.std.proofs.lemmas.Result.{err_from_is_err_and}
use Rattle.vd_source_lexer.specs.declared.token.TokenKind.TheVariants as kind
use Rattle.vd_parser.proofs.Steps.{collects_first, end_after, more_after, next, refused_first, start, stop_after}
use Rattle.vd_parser.proofs.Meanings.{idents_first, idents_more, idents_none}
use Rattle.vd_parser.proofs.parser.Parser.idents.Goals as goal

pub returns-in_err-first : goal.returns-in_err-first
returns-in_err-first c =
    let p = err_from_is_err_and c.from_residual.result c.from_residual.ensures.1 in
    rw (p.1, p.2) (refused_first start c.in_err-first.ensures.tree)

pub rest-init : goal.rest-init
rest-init c =
    rw (c.in_ok-push.ensures.ok, c.new-names.ensures) (collects_first (next start c.in_ok-first.ensures.tree) (idents_first _ _ _ c.in_ok-first.ensures.tree.value))

pub returns-in_err-name : goal.returns-in_err-name
returns-in_err-name c =
    let p = err_from_is_err_and c.from_residual-in_err-name.result c.from_residual-in_err-name.ensures.1 in
    rw (p.1, p.2) (stop_after kind.Comma c.rest.invariant (sym c.is.ensures ∙ c.rest-test.true) c.advance-comma.ensures c.in_err-name.ensures.tree)

pub rest-preserved : goal.rest-preserved
rest-preserved c =
    rw c.in_ok-push-2.ensures.ok (more_after kind.Comma c.rest.invariant (sym c.is.ensures ∙ c.rest-test.true) c.advance-comma.ensures c.in_ok-name.ensures.tree (idents_more _ _ _ c.in_ok-name.ensures.tree.value))

pub returns : goal.returns
returns c =
    end_after kind.Comma c.rest.invariant (sym c.is.ensures ∙ c.rest-test.false) (idents_none _)
