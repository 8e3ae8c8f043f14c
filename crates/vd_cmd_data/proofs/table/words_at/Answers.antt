use Rattle.std.proofs.Common.{arith}
use Rattle.std.proofs.lemmas.Result.{err_from_is_err_and}
use Rattle.csv.specs.Records.{fields_of}
use Rattle.vd_cmd_data.specs.Tables.{word_at}
use Rattle.vd_cmd_data.proofs.Turns.{next_refused}
use Rattle.vd_cmd_data.proofs.table.words_at.Goals as goal

pub returns-in_err-word : goal.returns-in_err-word
returns-in_err-word c =
    let p = err_from_is_err_and c.from_residual.result c.from_residual.ensures.1 in
    let more = c.loop-column-test.true in
    rw (p.1, p.2) (next_refused (λ _ column. word_at c.args.file.now c.args.number (fields_of c.args.row.now) column) 1 c.args.columns.now c.loop-column.column-index c.loop-column.words _ c.in_err-word.field-0.0 (omega (arith, more)) c.loop-column.invariant (c.in_err-word.ensures {u = tt}).err)
