use Rattle.std.proofs.lemmas.Result.{err_from_is_err_and}
use Rattle.vd_cmd_choose.proofs.Reading.{certificate_err, certificate_ok}
use Rattle.vd_cmd_choose.proofs.certificates.load_certificate.Goals as goal

pub returns-in_err-bytes-clause-loads : goal.returns-in_err-bytes-clause-loads
returns-in_err-bytes-clause-loads g c = λ certificates.
    let p = err_from_is_err_and c.from_residual.result c.from_residual.ensures.1 in
    rw (p.1, p.2) (certificate_err certificates c.args.name.now _ _ _ (c.in_err-bytes.ensures {u = tt}).loads)

pub returns-clause-loads : goal.returns-clause-loads
returns-clause-loads g c = λ certificates. certificate_ok certificates c.args.name.now c.in_ok-bytes.bytes c.as_slice.result.now _ _ _ (c.in_ok-bytes.ensures {u = tt}).loads c.as_slice.ensures (c.read_certificate.ensures.reads certificates)
