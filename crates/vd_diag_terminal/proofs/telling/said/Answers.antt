use Rattle.vd_diag_terminal.proofs.Looks.{by_reading, by_itself}
use Rattle.std.proofs.Common.{Ok, Err}
use Rattle.std.proofs.lemmas.Result.{err_from_is_err_and}
use Rattle.vd_diag_terminal.proofs.telling.said.Goals as goal

pub returns-in-Some : goal.returns-in-Some
returns-in-Some g c = by_reading c.args.coloured c.args.words.now c.args.status.now _ _ c.said_by.result c.in-Some.reading c.in-Some.ensures c.said_by.ensures

pub returns-in_ok-text-in-None : goal.returns-in_ok-text-in-None
returns-in_ok-text-in-None g c = by_itself c.args.coloured c.args.words.now c.args.status.now _ (Ok c.in_ok-text-in-None.text) c.in-None.ensures (c.in_ok-text-in-None.ensures {u = tt})

pub returns-in_err-text-in-None : goal.returns-in_err-text-in-None
returns-in_err-text-in-None g c =
    let p = err_from_is_err_and c.from_residual.result c.from_residual.ensures.1 in
    rw p.1 (by_itself c.args.coloured c.args.words.now c.args.status.now _ (Err p.0) c.in-None.ensures tt)
