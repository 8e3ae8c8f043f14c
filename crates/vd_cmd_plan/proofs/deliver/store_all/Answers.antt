use Rattle.std.proofs.Common.{Ok, Err, take, drop, ◌+◌, subst, sym, List}
use Rattle.std.proofs.lemmas.Result.{err_from_is_err_and}
use Rattle.vd_cmd_plan.specs.Deliver.{StoresAll}
use Rattle.vd_outside.specs.declared.stored.Stored.{Stored}
use Rattle.vd_cmd_plan.proofs.Storing.{stores_ok, stores_err, front_at, all_at}
use Rattle.vd_cmd_plan.proofs.deliver.store_all.Goals as goal

pub loop-file-preserved : goal.loop-file-preserved
loop-file-preserved g c =
    subst (λ (l : List Stored). StoresAll l (g.F.Files.view c.args.files.now) (g.F.Files.view c.store.new.files) (Ok tt))
    (sym (front_at c.args.added.now c.loop-file.file-index c.file-item.result c.loop-file-test.true c.file-item.is))
    (stores_ok (take c.loop-file.file-index c.args.added.now) c.file-item.result _ _ _ c.loop-file.invariant (c.in_ok-store.ensures {u = tt}))

pub returns-in_err-store : goal.returns-in_err-store
returns-in_err-store g c =
    let p = err_from_is_err_and c.from_residual.result c.from_residual.ensures.1 in
    rw (p.1, p.2)
    (subst (λ (l : List Stored). StoresAll l (g.F.Files.view c.args.files.now) (g.F.Files.view c.store.new.files) (Err c.in_err-store.field-0.0))
    (sym (all_at c.args.added.now c.loop-file.file-index c.file-item.result c.loop-file-test.true c.file-item.is))
    (stores_err (take c.loop-file.file-index c.args.added.now) c.file-item.result (drop (c.loop-file.file-index + 1) c.args.added.now) _ _ _ _ c.loop-file.invariant (c.in_err-store.ensures {u = tt})))
