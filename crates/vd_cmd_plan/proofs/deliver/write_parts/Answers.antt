use Rattle.std.proofs.lemmas.Result.{err_from_is_err_and}
use Rattle.vd_cmd_plan.proofs.Written.{parts_err}
use Rattle.vd_cmd_plan.proofs.deliver.write_parts.Goals as goal

pub returns-in_err-write_all : goal.returns-in_err-write_all
returns-in_err-write_all g c =
    let p = err_from_is_err_and c.from_residual.result c.from_residual.ensures.1 in
    rw (p.1, p.2) (parts_err c.args.parts.now c.loop-part.part-index _ _ _ _ _ c.loop-part-test.true c.loop-part.invariant (c.in_err-write_all.ensures {u = tt}))
