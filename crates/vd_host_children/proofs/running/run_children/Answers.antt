use Rattle.std.proofs.Common.{subst, List, ℕ}
use Rattle.std.proofs.lemmas.Result.{err_from_is_err_and}
use Rattle.vd_host_children.specs.Runs.{NotAllStarted, ReadsAll}
use Rattle.vd_host_children.proofs.Asked.{run_asks}
use Rattle.vd_host_children.proofs.Children.{runs}
use Rattle.vd_host_children.proofs.Counted.{run_causes}
use Rattle.vd_host_children.proofs.Told.{run_told}
use Rattle.vd_host_children.proofs.running.run_children.Goals as goal

pub returns : goal.returns
returns g c =
    let r = runs c.args.program.now c.args.hosts.now c.in_ok-children.children _ _ _ c.read_all.result (c.in_ok-children.ensures {u = tt}).starts
    (subst (λ (l : List ℕ). ReadsAll l (g.S.Spawner.view c.start_all.new.spawner) (g.S.Spawner.view c.read_all.new.spawner) c.read_all.result) c.as_slice.ensures c.read_all.ensures) in
    record { runs = r; causes = run_causes c.args.program.now c.args.hosts.now _ _ r; told = λ tells. run_told c.args.program.now c.args.hosts.now _ _ r tells; asks = λ told. run_asks c.args.program.now c.args.hosts.now _ _ r told }

pub returns-in_err-children : goal.returns-in_err-children
returns-in_err-children g c =
    let p = err_from_is_err_and c.from_residual.result c.from_residual.ensures.1 in
    let r = NotAllStarted _ (c.in_err-children.ensures {u = tt}).starts in
    rw (p.1, p.2) (record { runs = r; causes = run_causes c.args.program.now c.args.hosts.now _ _ r; told = λ tells. run_told c.args.program.now c.args.hosts.now _ _ r tells; asks = λ told. run_asks c.args.program.now c.args.hosts.now _ _ r told })
