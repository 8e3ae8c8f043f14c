use Rattle.std.proofs.Common.{ap}
use Rattle.std.proofs.lemmas.Result.{err_from_is_err_and}
use Rattle.vd_parser.specs.Language.{PARAM}
use Rattle.vd_parser.proofs.Steps.{last, refused_last, rule_start}
use Rattle.vd_parser.proofs.parser.Parser.parameter.Goals as goal

pub returns-in_err-name : goal.returns-in_err-name
returns-in_err-name c =
    let p = err_from_is_err_and c.from_residual.result c.from_residual.ensures.1 in
    rw (p.1, p.2) (refused_last (rule_start PARAM) c.in_err-name.ensures)

pub returns : goal.returns
returns c =
    last (rule_start PARAM) c.in_ok-name.ensures (ap (λ z. record { name = z.0; kind = z.1 }) c.in_ok-name.ensures.value)
