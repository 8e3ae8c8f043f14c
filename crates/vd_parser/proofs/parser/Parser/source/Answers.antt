use Rattle.std.proofs.lemmas.Result.{err_from_is_err_and}
use Rattle.vd_parser.specs.Language.{SOURCE}
use Rattle.vd_parser.proofs.Steps.{last, next, refused_first, refused_last, rule_start}
use Rattle.vd_parser.proofs.Meanings.{source_is}
use Rattle.vd_parser.proofs.parser.Parser.source.Goals as goal

pub returns-in_err-principals : goal.returns-in_err-principals
returns-in_err-principals c =
    let w0 = rule_start SOURCE in
    let p = err_from_is_err_and c.from_residual.result c.from_residual.ensures.1 in
    rw (p.1, p.2) (refused_first w0 c.in_err-principals.ensures)

pub returns-in_err-hosts : goal.returns-in_err-hosts
returns-in_err-hosts c =
    let w0 = rule_start SOURCE in
    let w1 = next w0 c.in_ok-principals.ensures in
    let p = err_from_is_err_and c.from_residual-in_err-hosts.result c.from_residual-in_err-hosts.ensures.1 in
    rw (p.1, p.2) (refused_first w1 c.in_err-hosts.ensures)

pub returns-in_err-functions : goal.returns-in_err-functions
returns-in_err-functions c =
    let w0 = rule_start SOURCE in
    let w1 = next w0 c.in_ok-principals.ensures in
    let w2 = next w1 c.in_ok-hosts.ensures in
    let p = err_from_is_err_and c.from_residual-in_err-functions.result c.from_residual-in_err-functions.ensures.1 in
    rw (p.1, p.2) (refused_first w2 c.in_err-functions.ensures)

pub returns-in_err-expect : goal.returns-in_err-expect
returns-in_err-expect c =
    let w0 = rule_start SOURCE in
    let w1 = next w0 c.in_ok-principals.ensures in
    let w2 = next w1 c.in_ok-hosts.ensures in
    let w3 = next w2 c.in_ok-functions.ensures in
    let p = err_from_is_err_and c.from_residual-in_err-expect.result c.from_residual-in_err-expect.ensures.1 in
    rw (p.1, p.2) (refused_first w3 c.in_err-expect.ensures.token)

pub returns-in_err-main : goal.returns-in_err-main
returns-in_err-main c =
    let w0 = rule_start SOURCE in
    let w1 = next w0 c.in_ok-principals.ensures in
    let w2 = next w1 c.in_ok-hosts.ensures in
    let w3 = next w2 c.in_ok-functions.ensures in
    let w4 = next w3 c.in_ok-expect.ensures.token in
    let p = err_from_is_err_and c.from_residual-in_err-main.result c.from_residual-in_err-main.ensures.1 in
    rw (p.1, p.2) (refused_last w4 c.in_err-main.ensures)

pub returns : goal.returns
returns c =
    let w0 = rule_start SOURCE in
    let w1 = next w0 c.in_ok-principals.ensures in
    let w2 = next w1 c.in_ok-hosts.ensures in
    let w3 = next w2 c.in_ok-functions.ensures in
    let w4 = next w3 c.in_ok-expect.ensures.token in
    last w4 c.in_ok-main.ensures (source_is _ _ _ _ _ _ _ _ _ _ c.in_ok-principals.ensures.value c.in_ok-hosts.ensures.value c.in_ok-functions.ensures.value c.in_ok-main.ensures.value)
