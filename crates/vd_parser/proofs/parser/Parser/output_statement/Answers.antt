use Rattle.std.proofs.Common.{ap}
use Rattle.std.proofs.lemmas.Result.{err_from_is_err_and}
use Rattle.vd_parser.proofs.Steps.{last, next, refused_first, refused_last, start}
use Rattle.vd_parser.proofs.Meanings.{output_is}
use Rattle.vd_parser.proofs.parser.Parser.output_statement.Goals as goal

pub returns-in_err-first : goal.returns-in_err-first
returns-in_err-first c =
    let w0 = start in
    let p = err_from_is_err_and c.from_residual.result c.from_residual.ensures.1 in
    rw (p.1, p.2) (refused_first w0 c.in_err-first.ensures.token)

pub returns-in_err-value : goal.returns-in_err-value
returns-in_err-value c =
    let w0 = start in
    let w1 = next w0 c.in_ok-first.ensures.token in
    let p = err_from_is_err_and c.from_residual-in_err-value.result c.from_residual-in_err-value.ensures.1 in
    rw (p.1, p.2) (refused_first w1 c.in_err-value.ensures)

pub returns-in_err-host : goal.returns-in_err-host
returns-in_err-host c =
    let w0 = start in
    let w1 = next w0 c.in_ok-first.ensures.token in
    let w2 = next w1 c.in_ok-value.ensures in
    let p = err_from_is_err_and c.from_residual-in_err-host.result c.from_residual-in_err-host.ensures.1 in
    rw (p.1, p.2) (refused_last w2 c.in_err-host.ensures)

pub returns : goal.returns
returns c =
    let w0 = start in
    let w1 = next w0 c.in_ok-first.ensures.token in
    let w2 = next w1 c.in_ok-value.ensures in
    last w2 c.in_ok-host.ensures (output_is _ _ _ _ _ _ _ (ap (λ z. z.span) c.in_ok-first.ensures.token.value) c.in_ok-value.ensures.value c.in_ok-host.ensures.value)
