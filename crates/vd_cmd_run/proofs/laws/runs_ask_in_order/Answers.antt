use Rattle.vd_cmd_run.proofs.Holding.{asks}
use Rattle.vd_cmd_run.proofs.laws.runs_ask_in_order.Goals as goal

pub returns : goal.returns
returns c = asks
