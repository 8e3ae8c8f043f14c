use Rattle.std.proofs.Common.{sym, ◌∙◌, refl}
use Rattle.std.proofs.lemmas.Result.{err_from_is_err_and}
use Rattle.vd_source_lexer.specs.declared.token.TokenKind.TheVariants as kind
use Rattle.vd_parser.proofs.Steps.{collects_first, end_kind, more_kind, next, refused_first, start, stop_kind}
use Rattle.vd_parser.proofs.Meanings.{hosts_first, hosts_more, hosts_none}
use Rattle.vd_parser.proofs.Progress.{symbol_less}
use Rattle.vd_parser.proofs.parser.Parser.hosts.Goals as goal

pub returns-in_err-first : goal.returns-in_err-first
returns-in_err-first c =
    let p = err_from_is_err_and c.from_residual.result c.from_residual.ensures.1 in
    rw (p.1, p.2) (refused_first start c.in_err-first.ensures)

pub rest-init : goal.rest-init
rest-init c =
    rw (c.in_ok-push.ensures.ok, c.new-hosts.ensures) (collects_first (next start c.in_ok-first.ensures) (hosts_first _ _ _ c.in_ok-first.ensures.value))

pub returns-in_err-host : goal.returns-in_err-host
returns-in_err-host c =
    let p = err_from_is_err_and c.from_residual-in_err-host.result c.from_residual-in_err-host.ensures.1 in
    rw (p.1, p.2) (stop_kind kind.Host c.rest.invariant (sym c.is.ensures ∙ c.rest-test.true) refl c.in_err-host.ensures)

pub rest-preserved : goal.rest-preserved
rest-preserved c =
    rw c.in_ok-push-2.ensures.ok (more_kind kind.Host c.rest.invariant (sym c.is.ensures ∙ c.rest-test.true) refl c.in_ok-host.ensures (hosts_more _ _ _ c.in_ok-host.ensures.value))

pub rest-smaller : goal.rest-smaller
rest-smaller c =
    symbol_less c.in_ok-host.ensures

pub returns : goal.returns
returns c =
    end_kind kind.Host c.rest.invariant (sym c.is.ensures ∙ c.rest-test.false) refl (hosts_none _)
