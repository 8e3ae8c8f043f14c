use Rattle.vd_host_session.specs.Plays.{Stopped, Told, Untold}
use Rattle.vd_host_session.proofs.playing.drive_and_tell.Goals as goal

pub returns-in-Ok-write_all : goal.returns-in-Ok-write_all
returns-in-Ok-write_all g c = Told _ c.in-Ok.done (c.in-Ok.ensures {u = tt}) (c.in-Ok-write_all.ensures {u = tt})

pub returns-in-Err-write_all : goal.returns-in-Err-write_all
returns-in-Err-write_all g c = Untold _ c.in-Ok.done _ (c.in-Ok.ensures {u = tt}) (c.in-Err-write_all.ensures {u = tt})

pub returns-in-Err : goal.returns-in-Err
returns-in-Err g c = rw c.fault_of_engine.ensures (Stopped c.in-Err.fault (c.in-Err.ensures {u = tt}))
