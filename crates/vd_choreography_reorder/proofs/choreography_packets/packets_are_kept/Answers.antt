use Rattle.vd_choreography_reorder.proofs.Same.{packets_brought, packets_kept}
use Rattle.vd_choreography_reorder.proofs.choreography_packets.packets_are_kept.Goals as goal

pub returns-clause-kept : goal.returns-clause-kept
returns-clause-kept c = packets_kept

pub returns-clause-forward : goal.returns-clause-forward
returns-clause-forward c = packets_brought
