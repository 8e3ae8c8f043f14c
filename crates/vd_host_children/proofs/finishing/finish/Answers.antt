use Rattle.vd_host_children.proofs.Children.{ends_well}
use Rattle.vd_host_children.specs.Finishing.{Unfinished, WithStatus}
use Rattle.vd_host_children.proofs.finishing.finish.Goals as goal

pub returns-then-status-eq0 : goal.returns-then-status-eq0
returns-then-status-eq0 g c = ends_well c.args.child c.in-Ok.status c.args.host _ _ c.if-status-eq0.true (c.in-Ok.ensures {u = tt})

pub returns-else-status-eq0 : goal.returns-else-status-eq0
returns-else-status-eq0 g c = WithStatus c.in-Ok.status c.if-status-eq0.false (c.in-Ok.ensures {u = tt})

pub returns-in-Err : goal.returns-in-Err
returns-in-Err g c = rw c.fault_of.ensures (Unfinished c.in-Err.fault (c.in-Err.ensures {u = tt}))
