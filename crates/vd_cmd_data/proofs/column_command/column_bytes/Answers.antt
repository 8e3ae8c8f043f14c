use Rattle.std.proofs.Common.{Err}
use Rattle.std.proofs.lemmas.Result.{err_from_is_err_and}
use Rattle.vd_cmd_data.proofs.Answered.{answered, refused_bytes}
use Rattle.vd_cmd_data.proofs.column_command.column_bytes.Goals as goal

pub returns-in_err-rows : goal.returns-in_err-rows
returns-in_err-rows c = λ files.
    let p = err_from_is_err_and c.from_residual.result c.from_residual.ensures.1 in
    rw (p.1, p.2) (refused_bytes c.args.words.now c.args.bytes.now files c.in_err-rows.field-0.0 (rw c.as_str.ensures at (c.in_err-rows.ensures {u = tt})))

pub returns : goal.returns
returns c = λ files.
    answered c.args.words.now c.args.bytes.now files c.in_ok-rows.rows _ (rw c.as_str.ensures at (c.in_ok-rows.ensures {u = tt})) (rw c.as_str-2.ensures at c.section_answer.ensures)
