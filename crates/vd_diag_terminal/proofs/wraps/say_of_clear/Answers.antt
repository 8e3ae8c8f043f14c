use Rattle.std.proofs.lemmas.Result.{err_from_is_err_and}
use Rattle.vd_diag_terminal.proofs.Wrapped.{says_run, says_no_run}
use Rattle.vd_diag_terminal.proofs.wraps.say_of_clear.Goals as goal

pub returns : goal.returns
returns g c = says_run c.args.coloured c.args.words.now _ _ _ _ c.in_ok-text.text c.write_all.result (c.in_ok-text.ensures {u = tt}) (rw c.as_slice.ensures at c.write_all.ensures)

pub returns-in_err-text : goal.returns-in_err-text
returns-in_err-text g c =
    let p = err_from_is_err_and c.from_residual.result c.from_residual.ensures.1 in
    rw (p.1, p.2) (says_no_run c.args.coloured c.args.words.now _ _ _ _ (c.in_err-text.ensures {u = tt}))
