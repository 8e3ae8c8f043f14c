use Rattle.vd_cmd_host.proofs.Runs.{asks_in_order}
use Rattle.vd_cmd_host.proofs.laws.hosts_ask_in_order.Goals as goal

pub returns : goal.returns
returns c = asks_in_order
