use Rattle.std.proofs.lemmas.Result.{err_from_is_err_and}
use Rattle.vd_cmd_data.proofs.Reported.{bytes_answered, bytes_refused}
use Rattle.vd_cmd_data.proofs.report_command.report_bytes.Goals as goal

pub returns-in_err-readings : goal.returns-in_err-readings
returns-in_err-readings c = λ files.
    let p = err_from_is_err_and c.from_residual.result c.from_residual.ensures.1 in
    rw (p.1, p.2) (bytes_refused c.args.words.now c.args.loaded.now c.args.host c.args.bytes.now files c.in_err-readings.field-0.0 (c.in_err-readings.ensures {u = tt}))

pub returns : goal.returns
returns c = λ files.
    bytes_answered c.args.words.now c.args.loaded.now c.args.host c.args.bytes.now files c.in_ok-readings.readings _ (c.in_ok-readings.ensures {u = tt}) (rw c.as_slice.ensures at c.report_answer.ensures)
