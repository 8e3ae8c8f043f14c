use Rattle.vd_noninter.proofs.Theorem.{reached_once}
use Rattle.vd_noninter.proofs.noninter_laws.laws.reached_hosts_are_single.Goals as goal

pub returns : goal.returns
returns c = reached_once
