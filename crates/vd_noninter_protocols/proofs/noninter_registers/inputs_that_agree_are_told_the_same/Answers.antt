use Rattle.vd_noninter_protocols.proofs.NoninterRegistersTheorem.{told_reached, told_readable}
use Rattle.vd_noninter_protocols.proofs.noninter_registers.inputs_that_agree_are_told_the_same.Goals as goal

pub returns-clause-reached : goal.returns-clause-reached
returns-clause-reached c = told_reached

pub returns-clause-readable : goal.returns-clause-readable
returns-clause-readable c = told_readable
