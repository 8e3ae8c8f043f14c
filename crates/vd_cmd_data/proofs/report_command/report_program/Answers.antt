use Rattle.std.proofs.lemmas.Result.{err_from_is_err_and}
use Rattle.vd_cmd_data.proofs.Reported.{host_refused, host_then}
use Rattle.vd_cmd_data.proofs.report_command.report_program.Goals as goal

pub returns-in_err-host : goal.returns-in_err-host
returns-in_err-host g c =
    let p = err_from_is_err_and c.from_residual.result c.from_residual.ensures.1 in
    rw (p.1, p.2) (host_refused c.args.words.now c.args.loaded.now _ c.in_err-host.field-0.0 (rw (c.form.ensures.same, c.as_str.ensures) at (c.in_err-host.ensures {u = tt})))

pub returns : goal.returns
returns g c = host_then c.args.words.now c.args.loaded.now c.in_ok-host.host _ _ _ (rw (c.form.ensures.same, c.as_str.ensures) at (c.in_ok-host.ensures {u = tt})) c.report_file.ensures
