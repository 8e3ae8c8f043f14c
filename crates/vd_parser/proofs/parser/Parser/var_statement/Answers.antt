use Rattle.std.proofs.Common.{ap}
use Rattle.std.proofs.lemmas.Result.{err_from_is_err_and}
use Rattle.vd_parser.proofs.Steps.{last, next, refused_first, refused_last, start}
use Rattle.vd_parser.proofs.Meanings.{var_is}
use Rattle.vd_parser.proofs.parser.Parser.var_statement.Goals as goal

pub returns-in_err-first : goal.returns-in_err-first
returns-in_err-first c =
    let w0 = start in
    let p = err_from_is_err_and c.from_residual.result c.from_residual.ensures.1 in
    rw (p.1, p.2) (refused_first w0 c.in_err-first.ensures.token)

pub returns-in_err-name : goal.returns-in_err-name
returns-in_err-name c =
    let w0 = start in
    let w1 = next w0 c.in_ok-first.ensures.token in
    let p = err_from_is_err_and c.from_residual-in_err-name.result c.from_residual-in_err-name.ensures.1 in
    rw (p.1, p.2) (refused_first w1 c.in_err-name.ensures)

pub returns-in_err-label : goal.returns-in_err-label
returns-in_err-label c =
    let w0 = start in
    let w1 = next w0 c.in_ok-first.ensures.token in
    let w2 = next w1 c.in_ok-name.ensures in
    let p = err_from_is_err_and c.from_residual-in_err-label.result c.from_residual-in_err-label.ensures.1 in
    rw (p.1, p.2) (refused_first w2 c.in_err-label.ensures)

pub returns-in_err-value : goal.returns-in_err-value
returns-in_err-value c =
    let w0 = start in
    let w1 = next w0 c.in_ok-first.ensures.token in
    let w2 = next w1 c.in_ok-name.ensures in
    let w3 = next w2 c.in_ok-label.ensures in
    let p = err_from_is_err_and c.from_residual-in_err-value.result c.from_residual-in_err-value.ensures.1 in
    rw (p.1, p.2) (refused_last w3 c.in_err-value.ensures)

pub returns : goal.returns
returns c =
    let w0 = start in
    let w1 = next w0 c.in_ok-first.ensures.token in
    let w2 = next w1 c.in_ok-name.ensures in
    let w3 = next w2 c.in_ok-label.ensures in
    last w3 c.in_ok-value.ensures (var_is _ _ _ _ _ _ _ _ _ _ (ap (λ z. z.span) c.in_ok-first.ensures.token.value) (ap (λ z. z.0) c.in_ok-name.ensures.value) (ap (λ z. z.1) c.in_ok-name.ensures.value) c.in_ok-label.ensures.value c.in_ok-value.ensures.value)
