use Rattle.vd_diag_terminal.proofs.wraps.told_of_words.Goals as goal

pub returns-in_ok-text-in-Ok : goal.returns-in_ok-text-in-Ok
returns-in_ok-text-in-Ok c = rw c.in-Ok.is (rw c.as_slice.ensures at (c.in_ok-text-in-Ok.ensures {u = tt}))

pub returns-in-Err : goal.returns-in-Err
returns-in-Err c = rw c.in-Err.is c.said_of_fault.ensures
