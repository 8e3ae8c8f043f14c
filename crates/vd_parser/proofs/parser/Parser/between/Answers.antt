use Rattle.std.proofs.lemmas.Result.{err_from_is_err_and}
use Rattle.vd_parser.proofs.Steps.{last, next, refused_first, refused_last, start}
use Rattle.vd_parser.proofs.Meanings.{between_is}
use Rattle.vd_parser.proofs.parser.Parser.between.Goals as goal

pub returns-in_err-expect : goal.returns-in_err-expect
returns-in_err-expect c =
    let w0 = start in
    let p = err_from_is_err_and c.from_residual.result c.from_residual.ensures.1 in
    rw (p.1, p.2) (refused_first w0 c.in_err-expect.ensures.token)

pub returns-in_err-value : goal.returns-in_err-value
returns-in_err-value c =
    let w0 = start in
    let w1 = next w0 c.in_ok-expect.ensures.token in
    let p = err_from_is_err_and c.from_residual-in_err-value.result c.from_residual-in_err-value.ensures.1 in
    rw (p.1, p.2) (refused_first w1 c.in_err-value.ensures)

pub returns-in_err-expect-2 : goal.returns-in_err-expect-2
returns-in_err-expect-2 c =
    let w0 = start in
    let w1 = next w0 c.in_ok-expect.ensures.token in
    let w2 = next w1 c.in_ok-value.ensures in
    let p = err_from_is_err_and c.from_residual-in_err-expect-2.result c.from_residual-in_err-expect-2.ensures.1 in
    rw (p.1, p.2) (refused_last w2 c.in_err-expect-2.ensures.token)

pub returns : goal.returns
returns c =
    let w0 = start in
    let w1 = next w0 c.in_ok-expect.ensures.token in
    let w2 = next w1 c.in_ok-value.ensures in
    last w2 c.in_ok-expect-2.ensures.token (between_is _ _ _ _ _ c.in_ok-value.ensures.value)
