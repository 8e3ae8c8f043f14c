use Rattle.std.proofs.lemmas.Result.{err_from_is_err_and}
use Rattle.vd_cmd_data.proofs.Reported.{file_refused, file_then_bytes}
use Rattle.vd_cmd_data.proofs.report_command.report_file.Goals as goal

pub returns-in_err-bytes : goal.returns-in_err-bytes
returns-in_err-bytes g c =
    let p = err_from_is_err_and c.from_residual.result c.from_residual.ensures.1 in
    rw (p.1, p.2) (file_refused c.args.words.now c.args.loaded.now c.args.host _ _ c.in_err-bytes.field-0.0 (rw c.as_str.ensures at (c.in_err-bytes.ensures {u = tt}).loads))

pub returns : goal.returns
returns g c =
    file_then_bytes c.args.words.now c.args.loaded.now c.args.host c.in_ok-bytes.bytes c.as_slice.result.now _ _ _ (rw c.as_str.ensures at (c.in_ok-bytes.ensures {u = tt}).loads) c.as_slice.ensures c.report_bytes.ensures
