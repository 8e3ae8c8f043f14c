use Rattle.vd_diag_terminal.proofs.wraps.told_of_run.Goals as goal

pub returns-in-Ok : goal.returns-in-Ok
returns-in-Ok c = rw c.in-Ok.is (rw c.as_slice.ensures at c.told_of_words.ensures)

pub returns-in-Err : goal.returns-in-Err
returns-in-Err c = rw c.in-Err.is c.said_of_fault.ensures
