use Rattle.vd_noninter_protocols.proofs.Theorem.{all_hear_reached}
use Rattle.vd_noninter_protocols.proofs.noninter_assigned.laws.reached_hosts_are_enough_assigned.Goals as goal

pub returns : goal.returns
returns c = all_hear_reached
