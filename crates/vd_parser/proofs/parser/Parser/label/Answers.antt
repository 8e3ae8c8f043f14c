use Rattle.std.proofs.lemmas.Result.{err_from_is_err_and}
use Rattle.vd_parser.specs.Language.{LABEL}
use Rattle.vd_parser.proofs.Steps.{last, next, refused_first, refused_last, rule_start}
use Rattle.vd_parser.proofs.Meanings.{label_is}
use Rattle.vd_parser.proofs.parser.Parser.label.Goals as goal

pub returns-in_err-expect : goal.returns-in_err-expect
returns-in_err-expect c =
    let w0 = rule_start LABEL in
    let p = err_from_is_err_and c.from_residual.result c.from_residual.ensures.1 in
    rw (p.1, p.2) (refused_first w0 c.in_err-expect.ensures.token)

pub returns-in_err-conf : goal.returns-in_err-conf
returns-in_err-conf c =
    let w0 = rule_start LABEL in
    let w1 = next w0 c.in_ok-expect.ensures.token in
    let p = err_from_is_err_and c.from_residual-in_err-conf.result c.from_residual-in_err-conf.ensures.1 in
    rw (p.1, p.2) (refused_first w1 c.in_err-conf.ensures)

pub returns-in_err-expect-2 : goal.returns-in_err-expect-2
returns-in_err-expect-2 c =
    let w0 = rule_start LABEL in
    let w1 = next w0 c.in_ok-expect.ensures.token in
    let w2 = next w1 c.in_ok-conf.ensures in
    let p = err_from_is_err_and c.from_residual-in_err-expect-2.result c.from_residual-in_err-expect-2.ensures.1 in
    rw (p.1, p.2) (refused_first w2 c.in_err-expect-2.ensures.token)

pub returns-in_err-integ : goal.returns-in_err-integ
returns-in_err-integ c =
    let w0 = rule_start LABEL in
    let w1 = next w0 c.in_ok-expect.ensures.token in
    let w2 = next w1 c.in_ok-conf.ensures in
    let w3 = next w2 c.in_ok-expect-2.ensures.token in
    let p = err_from_is_err_and c.from_residual-in_err-integ.result c.from_residual-in_err-integ.ensures.1 in
    rw (p.1, p.2) (refused_first w3 c.in_err-integ.ensures)

pub returns-in_err-expect-3 : goal.returns-in_err-expect-3
returns-in_err-expect-3 c =
    let w0 = rule_start LABEL in
    let w1 = next w0 c.in_ok-expect.ensures.token in
    let w2 = next w1 c.in_ok-conf.ensures in
    let w3 = next w2 c.in_ok-expect-2.ensures.token in
    let w4 = next w3 c.in_ok-integ.ensures in
    let p = err_from_is_err_and c.from_residual-in_err-expect-3.result c.from_residual-in_err-expect-3.ensures.1 in
    rw (p.1, p.2) (refused_last w4 c.in_err-expect-3.ensures.token)

pub returns : goal.returns
returns c =
    let w0 = rule_start LABEL in
    let w1 = next w0 c.in_ok-expect.ensures.token in
    let w2 = next w1 c.in_ok-conf.ensures in
    let w3 = next w2 c.in_ok-expect-2.ensures.token in
    let w4 = next w3 c.in_ok-integ.ensures in
    last w4 c.in_ok-expect-3.ensures.token (label_is _ _ _ _ _ _ _ _ c.in_ok-conf.ensures.value c.in_ok-integ.ensures.value)
