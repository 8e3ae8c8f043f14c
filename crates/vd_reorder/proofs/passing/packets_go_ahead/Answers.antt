use Rattle.vd_reorder.proofs.GoAhead.{packets_go}
use Rattle.vd_reorder.proofs.passing.packets_go_ahead.Goals as goal

pub returns : goal.returns
returns c = packets_go
