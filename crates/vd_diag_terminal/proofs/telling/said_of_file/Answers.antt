use Rattle.std.proofs.Common.{Ok, Err}
use Rattle.vd_diag_terminal.proofs.Looks.{of_file}
use Rattle.vd_diag_terminal.proofs.telling.said_of_file.Goals as goal

pub returns-in-Ok : goal.returns-in-Ok
returns-in-Ok g c = of_file c.args.coloured c.args.status.now _ _ c.all_told.result c.args.name.now c.args.limit (Ok c.in-Ok.bytes) (c.in-Ok.ensures {u = tt}) (rw c.as_slice.ensures at c.all_told.ensures)

pub returns-in-Err : goal.returns-in-Err
returns-in-Err g c = of_file c.args.coloured c.args.status.now _ _ c.said_of_fault.result c.args.name.now c.args.limit (Err c.in-Err.fault) (c.in-Err.ensures {u = tt}) c.said_of_fault.ensures
