use Rattle.vd_noninter_protocols.proofs.NoninterRegistersTheorem.{tells_what_is_heard}
use Rattle.vd_noninter_protocols.proofs.noninter_registers.joint_runs_tell_what_is_heard.Goals as goal

pub returns : goal.returns
returns c = tells_what_is_heard
