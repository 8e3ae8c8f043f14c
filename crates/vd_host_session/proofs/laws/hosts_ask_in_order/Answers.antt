use Rattle.vd_host_session.proofs.Asking.{in_order}
use Rattle.vd_host_session.proofs.laws.hosts_ask_in_order.Goals as goal

pub returns : goal.returns
returns c = in_order
