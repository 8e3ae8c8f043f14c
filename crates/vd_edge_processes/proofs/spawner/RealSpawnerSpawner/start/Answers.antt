use Rattle.vd_edge_processes.proofs.Known.{started}
use Rattle.vd_edge_processes.proofs.spawner.RealSpawnerSpawner.start.Goals as goal

pub returns-in_ok-push-in-Ok : goal.returns-in_ok-push-in-Ok
returns-in_ok-push-in-Ok g c =
    rw (← c.self.view_is, c.as_slice.ensures) (started c.args.program.now c.args.words.now c.self.inside.statuses c.push.new.self c.self.inside.faults c.in_ok-push-in-Ok.ensures.ok)
