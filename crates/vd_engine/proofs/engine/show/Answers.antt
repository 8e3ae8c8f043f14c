use Rattle.vd_engine.proofs.Turns.{done_quiet, done_sent, not_sent, done_printed, not_printed}
use Rattle.vd_engine.proofs.engine.show.Goals as goal

pub returns-in-Quiet : goal.returns-in-Quiet
returns-in-Quiet g c = rw c.in-Quiet.is (done_quiet _ _ c.requires.sound)

pub returns-in-Ok : goal.returns-in-Ok
returns-in-Ok g c = rw c.in-Say.is (done_sent _ _ _ _ _ c.requires.sound (c.in-Ok.ensures {u = tt}))

pub returns-in-Err : goal.returns-in-Err
returns-in-Err g c = rw c.in-Say.is (not_sent _ _ _ _ _ _ c.requires.sound (c.in-Err.ensures {u = tt}))

pub returns-in-Ok-write_line : goal.returns-in-Ok-write_line
returns-in-Ok-write_line g c = rw c.in-Print.is (done_printed _ _ _ _ c.requires.sound (c.in-Ok-write_line.ensures {u = tt}))

pub returns-in-Err-write_line : goal.returns-in-Err-write_line
returns-in-Err-write_line g c = rw c.in-Print.is (not_printed _ _ _ _ _ c.requires.sound (c.in-Err-write_line.ensures {u = tt}))
