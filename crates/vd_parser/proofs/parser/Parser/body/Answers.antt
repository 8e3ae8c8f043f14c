use Rattle.std.proofs.Common.{ap}
use Rattle.std.proofs.lemmas.Result.{err_from_is_err_and}
use Rattle.vd_parser.proofs.Steps.{last, next, refused_first, refused_last, start}
use Rattle.vd_parser.proofs.Meanings.{body_is}
use Rattle.vd_parser.proofs.parser.Parser.body.Goals as goal

pub returns-in_err-expect : goal.returns-in_err-expect
returns-in_err-expect c =
    let w0 = start in
    let p = err_from_is_err_and c.from_residual.result c.from_residual.ensures.1 in
    rw (p.1, p.2) (refused_first w0 c.in_err-expect.ensures.token)

pub returns-in_err-statements : goal.returns-in_err-statements
returns-in_err-statements c =
    let w0 = start in
    let w1 = next w0 c.in_ok-expect.ensures.token in
    let p = err_from_is_err_and c.from_residual-in_err-statements.result c.from_residual-in_err-statements.ensures.1 in
    rw (p.1, p.2) (refused_first w1 c.in_err-statements.ensures)

pub returns-in_err-at_return : goal.returns-in_err-at_return
returns-in_err-at_return c =
    let w0 = start in
    let w1 = next w0 c.in_ok-expect.ensures.token in
    let w2 = next w1 c.in_ok-statements.ensures in
    let p = err_from_is_err_and c.from_residual-in_err-at_return.result c.from_residual-in_err-at_return.ensures.1 in
    rw (p.1, p.2) (refused_last w2 c.in_err-at_return.ensures)

pub returns : goal.returns
returns c =
    let w0 = start in
    let w1 = next w0 c.in_ok-expect.ensures.token in
    let w2 = next w1 c.in_ok-statements.ensures in
    last w2 c.in_ok-at_return.ensures (body_is _ _ _ _ _ _ _ c.in_ok-statements.ensures.value (ap (λ z. z.0) c.in_ok-at_return.ensures.value) (ap (λ z. z.1) c.in_ok-at_return.ensures.value))
