use Rattle.vd_diag_terminal.proofs.Others.{without_steps}
use Rattle.vd_diag_terminal.proofs.telling.steps_on.Goals as goal

pub returns-in-Flow : goal.returns-in-Flow
returns-in-Flow c = rw c.in-Flow.is c.flow_steps.ensures

pub returns-in_default : goal.returns-in_default
returns-in_default c = rw c.new.ensures (without_steps c.args.bytes.now c.args.status.now c.in_default.not-Flow)
