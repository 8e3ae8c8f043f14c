use Rattle.std.proofs.Common.{Err}
use Rattle.std.proofs.lemmas.Result.{err_from_is_err_and}
use Rattle.vd_cmd_data.proofs.Answered.{fetch_refused, fetched_then}
use Rattle.vd_cmd_data.proofs.column_command.column.Goals as goal

pub returns-in_err-bytes : goal.returns-in_err-bytes
returns-in_err-bytes g c =
    let p = err_from_is_err_and c.from_residual.result c.from_residual.ensures.1 in
    rw (p.1, p.2) (fetch_refused c.args.words.now _ _ c.in_err-bytes.field-0.0 (rw c.as_str.ensures at (c.in_err-bytes.ensures {u = tt}).loads))

pub returns : goal.returns
returns g c =
    fetched_then c.args.words.now c.in_ok-bytes.bytes c.as_slice.result.now _ _ _ (rw c.as_str.ensures at (c.in_ok-bytes.ensures {u = tt}).loads) c.as_slice.ensures
    (c.column_bytes.ensures _)
