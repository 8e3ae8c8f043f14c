use Rattle.std.proofs.Common.{[], ap}
use Rattle.std.proofs.lemmas.Result.{err_from_is_err_and}
use Rattle.vd_parser.proofs.Steps.{last, next, refused_first, refused_last, start}
use Rattle.vd_parser.proofs.Meanings.{length_is}
use Rattle.vd_parser.proofs.parser.Parser.length.Goals as goal

pub returns-in_err-expect : goal.returns-in_err-expect
returns-in_err-expect c =
    let w0 = start in
    let p = err_from_is_err_and c.from_residual.result c.from_residual.ensures.1 in
    rw (p.1, p.2) (refused_first w0 c.in_err-expect.ensures.token)

pub returns-in_err-length : goal.returns-in_err-length
returns-in_err-length c =
    let w0 = start in
    let w1 = next w0 c.in_ok-expect.ensures.token in
    let p = err_from_is_err_and c.from_residual-in_err-length.result c.from_residual-in_err-length.ensures.1 in
    rw (p.1, p.2) (refused_first w1 c.in_err-length.ensures.token)

pub returns-in_err-expect-2 : goal.returns-in_err-expect-2
returns-in_err-expect-2 c =
    let w0 = start in
    let w1 = next w0 c.in_ok-expect.ensures.token in
    let w2 = next w1 c.in_ok-length.ensures.token in
    let p = err_from_is_err_and c.from_residual-in_err-expect-2.result c.from_residual-in_err-expect-2.ensures.1 in
    rw (p.1, p.2) (refused_last w2 c.in_err-expect-2.ensures.token)

pub returns : goal.returns
returns c =
    let w0 = start in
    let w1 = next w0 c.in_ok-expect.ensures.token in
    let w2 = next w1 c.in_ok-length.ensures.token in
    last w2 c.in_ok-expect-2.ensures.token (length_is [] _ _ _ _ (ap (λ z. z.value) c.in_ok-length.ensures.token.value))
