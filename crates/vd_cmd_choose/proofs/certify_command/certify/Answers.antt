use Rattle.std.proofs.lemmas.Result.{err_from_is_err_and}
use Rattle.vd_cmd_choose.specs.Certifying.{certificate_plan, certified_plan}
use Rattle.vd_cmd_choose.proofs.certify_command.certify.Goals as goal

pub returns-in_err-program : goal.returns-in_err-program
returns-in_err-program g c = λ texts least certificates.
    let p = err_from_is_err_and c.from_residual.result c.from_residual.ensures.1 in
    rw (p.1, p.2) ((c.in_err-program.ensures {u = tt}).loads texts least (certificate_plan least certificates c.args.name.now))

pub returns-in_err-certificate : goal.returns-in_err-certificate
returns-in_err-certificate g c = λ texts least certificates.
    let p = err_from_is_err_and c.from_residual-in_err-certificate.result c.from_residual-in_err-certificate.ensures.1 in
    rw (p.1, p.2)
    ((c.in_ok-program.ensures {u = tt}).loads texts least (certificate_plan least certificates c.args.name.now) _ _
    ((c.in_err-certificate.ensures {u = tt}).loads certificates (certified_plan least c.in_ok-program.program)))

pub returns : goal.returns
returns g c = λ texts least certificates.
    (c.in_ok-program.ensures {u = tt}).loads texts least (certificate_plan least certificates c.args.name.now) _ _
    ((c.in_ok-certificate.ensures {u = tt}).loads certificates (certified_plan least c.in_ok-program.program) _ _ (c.certify_program.ensures least _))
