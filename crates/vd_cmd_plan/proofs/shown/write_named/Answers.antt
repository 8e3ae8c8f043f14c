use Rattle.std.proofs.lemmas.Result.{err_from_is_err_and}
use Rattle.vd_cmd_plan.proofs.Written.{writes_behind, writes_err, writes_front}
use Rattle.vd_cmd_plan.proofs.shown.write_named.Goals as goal

pub returns-in_err-write_all : goal.returns-in_err-write_all
returns-in_err-write_all g c =
    let p = err_from_is_err_and c.from_residual.result c.from_residual.ensures.1 in
    rw (p.1, p.2) (writes_front _ _ _ _ _ (c.in_err-write_all.ensures {u = tt}))

pub returns-in_err-write_shown : goal.returns-in_err-write_shown
returns-in_err-write_shown g c =
    let p = err_from_is_err_and c.from_residual-in_err-write_shown.result c.from_residual-in_err-write_shown.ensures.1 in
    rw (p.1, p.2) (writes_err _ _ _ _ _ _ _ (c.in_ok-write_all.ensures {u = tt}) (c.in_err-write_shown.ensures {u = tt}))

pub returns : goal.returns
returns g c = writes_behind _ _ _ _ _ _ (c.in_ok-write_all.ensures {u = tt}) (writes_behind _ _ _ _ _ _ (c.in_ok-write_shown.ensures {u = tt}) c.write_parts.ensures)
