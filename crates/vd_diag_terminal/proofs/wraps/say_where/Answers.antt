use Rattle.std.proofs.Common.{refl}
use Rattle.vd_diag_terminal.proofs.wraps.say_where.Goals as goal

pub returns-in-File : goal.returns-in-File
returns-in-File g c = rw c.in-File.is (refl, refl, refl)

pub returns-in-Asked : goal.returns-in-Asked
returns-in-Asked g c = rw c.in-Asked.is c.say_of_clear.ensures

pub returns-in-Terminal : goal.returns-in-Terminal
returns-in-Terminal g c = rw c.in-Terminal.is c.say_of_clear-in-Terminal.ensures
