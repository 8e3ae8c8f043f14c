use Rattle.std.proofs.Common.{◌≡◌, ◌<◌, length, None, subst, sym}
use Rattle.vd_edge_processes.specs.RealSpawner.{known}
use Rattle.vd_edge_processes.proofs.Known.{finished}
use Rattle.vd_edge_processes.proofs.spawner.RealSpawnerSpawner.finish.Goals as goal

pub returns-in-Ok : goal.returns-in-Ok
returns-in-Ok g c =
    let given : c.args.child < length c.self.inside.statuses = subst (λ state. c.args.child < length state.statuses) (sym c.self.view_is) c.requires in
    let open_end : known c.self.inside.statuses c.args.child ≡ None = subst (λ statuses. known statuses c.args.child ≡ None) c.as_slice.ensures c.in-None.is in
    rw (← c.self.view_is) (finished c.self.inside.statuses c.set.new.self c.self.inside.faults c.args.child c.in-Ok.status given open_end c.set.ensures)
