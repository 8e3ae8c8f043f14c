use Rattle.std.proofs.lemmas.Result.{err_from_is_err_and}
use Rattle.vd_cmd_plan.proofs.ShownNames.{shown_err}
use Rattle.vd_cmd_plan.proofs.shown.write_shown.Goals as goal

pub returns-in_err-write_all : goal.returns-in_err-write_all
returns-in_err-write_all g c =
    let p = err_from_is_err_and c.from_residual.result c.from_residual.ensures.1 in
    rw (p.1, p.2)
    (shown_err c.args.name.now c.loop-byte.byte-index _ c.shown_byte.result _ _ _ _ c.loop-byte-test.true c.shown_byte.ensures c.loop-byte.invariant (c.in_err-write_all.ensures {u = tt}))
