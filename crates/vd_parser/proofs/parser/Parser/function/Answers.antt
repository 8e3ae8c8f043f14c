use Rattle.std.proofs.Common.{ap}
use Rattle.std.proofs.lemmas.Result.{err_from_is_err_and}
use Rattle.vd_parser.specs.Language.{FUN}
use Rattle.vd_parser.proofs.Steps.{last, next, refused_first, refused_last, rule_start}
use Rattle.vd_parser.proofs.Meanings.{function_is}
use Rattle.vd_parser.proofs.parser.Parser.function.Goals as goal

pub returns-in_err-expect : goal.returns-in_err-expect
returns-in_err-expect c =
    let w0 = rule_start FUN in
    let p = err_from_is_err_and c.from_residual.result c.from_residual.ensures.1 in
    rw (p.1, p.2) (refused_first w0 c.in_err-expect.ensures.token)

pub returns-in_err-name : goal.returns-in_err-name
returns-in_err-name c =
    let w0 = rule_start FUN in
    let w1 = next w0 c.in_ok-expect.ensures.token in
    let p = err_from_is_err_and c.from_residual-in_err-name.result c.from_residual-in_err-name.ensures.1 in
    rw (p.1, p.2) (refused_first w1 c.in_err-name.ensures.tree)

pub returns-in_err-parameters : goal.returns-in_err-parameters
returns-in_err-parameters c =
    let w0 = rule_start FUN in
    let w1 = next w0 c.in_ok-expect.ensures.token in
    let w2 = next w1 c.in_ok-name.ensures.tree in
    let p = err_from_is_err_and c.from_residual-in_err-parameters.result c.from_residual-in_err-parameters.ensures.1 in
    rw (p.1, p.2) (refused_first w2 c.in_err-parameters.ensures)

pub returns-in_err-expect-2 : goal.returns-in_err-expect-2
returns-in_err-expect-2 c =
    let w0 = rule_start FUN in
    let w1 = next w0 c.in_ok-expect.ensures.token in
    let w2 = next w1 c.in_ok-name.ensures.tree in
    let w3 = next w2 c.in_ok-parameters.ensures in
    let p = err_from_is_err_and c.from_residual-in_err-expect-2.result c.from_residual-in_err-expect-2.ensures.1 in
    rw (p.1, p.2) (refused_first w3 c.in_err-expect-2.ensures.token)

pub returns-in_err-kind : goal.returns-in_err-kind
returns-in_err-kind c =
    let w0 = rule_start FUN in
    let w1 = next w0 c.in_ok-expect.ensures.token in
    let w2 = next w1 c.in_ok-name.ensures.tree in
    let w3 = next w2 c.in_ok-parameters.ensures in
    let w4 = next w3 c.in_ok-expect-2.ensures.token in
    let p = err_from_is_err_and c.from_residual-in_err-kind.result c.from_residual-in_err-kind.ensures.1 in
    rw (p.1, p.2) (refused_first w4 c.in_err-kind.ensures)

pub returns-in_err-body : goal.returns-in_err-body
returns-in_err-body c =
    let w0 = rule_start FUN in
    let w1 = next w0 c.in_ok-expect.ensures.token in
    let w2 = next w1 c.in_ok-name.ensures.tree in
    let w3 = next w2 c.in_ok-parameters.ensures in
    let w4 = next w3 c.in_ok-expect-2.ensures.token in
    let w5 = next w4 c.in_ok-kind.ensures in
    let p = err_from_is_err_and c.from_residual-in_err-body.result c.from_residual-in_err-body.ensures.1 in
    rw (p.1, p.2) (refused_last w5 c.in_err-body.ensures)

pub returns : goal.returns
returns c =
    let w0 = rule_start FUN in
    let w1 = next w0 c.in_ok-expect.ensures.token in
    let w2 = next w1 c.in_ok-name.ensures.tree in
    let w3 = next w2 c.in_ok-parameters.ensures in
    let w4 = next w3 c.in_ok-expect-2.ensures.token in
    let w5 = next w4 c.in_ok-kind.ensures in
    last w5 c.in_ok-body.ensures (function_is _ _ _ _ _ _ _ _ _ _ _ _ _ c.in_ok-name.ensures.tree.value c.in_ok-parameters.ensures.value c.in_ok-kind.ensures.value (ap (λ z. z.0) c.in_ok-body.ensures.value) (ap (λ z. z.1) c.in_ok-body.ensures.value) (ap (λ z. z.2) c.in_ok-body.ensures.value))
