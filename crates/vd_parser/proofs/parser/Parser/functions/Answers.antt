use Rattle.std.proofs.Common.{sym, ◌∙◌, refl}
use Rattle.std.proofs.lemmas.Result.{err_from_is_err_and}
use Rattle.vd_source_lexer.specs.declared.token.TokenKind.TheVariants as kind
use Rattle.vd_parser.proofs.Steps.{collects_first, end_kind, more_kind, start, stop_kind}
use Rattle.vd_parser.proofs.Meanings.{functions_more, functions_none}
use Rattle.vd_parser.proofs.Progress.{symbol_less}
use Rattle.vd_parser.proofs.parser.Parser.functions.Goals as goal

pub all-init : goal.all-init
all-init c =
    rw c.new-functions.ensures (collects_first start (λ y. refl))

pub returns-in_err-function : goal.returns-in_err-function
returns-in_err-function c =
    let p = err_from_is_err_and c.from_residual.result c.from_residual.ensures.1 in
    rw (p.1, p.2) (stop_kind kind.Fun c.all.invariant (sym c.is.ensures ∙ c.all-test.true) refl c.in_err-function.ensures)

pub all-preserved : goal.all-preserved
all-preserved c =
    rw c.in_ok-push.ensures.ok (more_kind kind.Fun c.all.invariant (sym c.is.ensures ∙ c.all-test.true) refl c.in_ok-function.ensures (functions_more _ _ _ c.in_ok-function.ensures.value))

pub all-smaller : goal.all-smaller
all-smaller c =
    symbol_less c.in_ok-function.ensures

pub returns : goal.returns
returns c =
    end_kind kind.Fun c.all.invariant (sym c.is.ensures ∙ c.all-test.false) refl (functions_none _)
