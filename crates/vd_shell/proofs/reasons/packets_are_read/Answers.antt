use Rattle.vd_shell.proofs.PacketsRead.{packets_read}
use Rattle.vd_shell.proofs.reasons.packets_are_read.Goals as goal

pub returns : goal.returns
returns c = packets_read
