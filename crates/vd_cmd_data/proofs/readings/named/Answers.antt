use Rattle.std.proofs.Common.{arith, length}
use Rattle.std.proofs.lemmas.Result.{err_from_is_err_and}
use Rattle.vd_cmd_data.specs.Readings.{reading_at}
use Rattle.vd_cmd_data.proofs.Turns.{next_done, next_refused}
use Rattle.vd_cmd_data.proofs.readings.named.Goals as goal

pub returns-in_err-reading : goal.returns-in_err-reading
returns-in_err-reading c =
    let p = err_from_is_err_and c.from_residual.result c.from_residual.ensures.1 in
    let more = c.loop-index-test.true in
    rw (p.1, p.2) (next_refused (reading_at c.args.file.now c.args.places.now (length c.args.words.now)) 1 c.args.words.now c.loop-index.index c.loop-index.list _ c.in_err-reading.field-0.0 (omega (arith, more)) c.loop-index.invariant (c.in_err-reading.ensures {u = tt}).err)

pub loop-index-preserved : goal.loop-index-preserved
loop-index-preserved c =
    let more = c.loop-index-test.true in
    rw c.in_ok-push.ensures.ok (next_done (reading_at c.args.file.now c.args.places.now (length c.args.words.now)) 1 c.args.words.now c.loop-index.index c.loop-index.list _ c.in_ok-reading.reading (omega (arith, more)) c.loop-index.invariant (c.in_ok-reading.ensures {u = tt}).ok)
