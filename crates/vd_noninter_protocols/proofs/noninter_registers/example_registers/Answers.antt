use Rattle.vd_noninter_protocols.proofs.NoninterRegistersExamples.{worked}
use Rattle.vd_noninter_protocols.proofs.noninter_registers.example_registers.Goals as goal

pub returns : goal.returns
returns c = worked
