use Rattle.vd_cmd_plan.proofs.WholeRuns.{delivered, cut, not_stored}
use Rattle.vd_cmd_plan.proofs.deliver.deliver.Goals as goal

pub returns-in-Err : goal.returns-in-Err
returns-in-Err g c = not_stored c.args.answer c.as_slice.result.now _ _ _ c.in-Err.status c.as_slice.ensures (rw c.in-Err.is at c.store_all.ensures)

pub returns-in-Ok-write_all : goal.returns-in-Ok-write_all
returns-in-Ok-write_all g c = delivered c.args.answer c.as_slice.result.now c.as_slice-in-Ok.result.now _ _ _ _ c.requires c.as_slice.ensures c.as_slice-in-Ok.ensures (c.in-Ok.ensures {u = tt}) (c.in-Ok-write_all.ensures {u = tt})

pub returns-in-Err-write_all : goal.returns-in-Err-write_all
returns-in-Err-write_all g c = cut c.args.answer c.as_slice.result.now c.as_slice-in-Ok.result.now _ _ _ _ _ c.as_slice.ensures c.as_slice-in-Ok.ensures (c.in-Ok.ensures {u = tt}) (c.in-Err-write_all.ensures {u = tt})
