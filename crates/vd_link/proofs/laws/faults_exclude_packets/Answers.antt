use Rattle.vd_link.proofs.Streams.{no_fault}
use Rattle.vd_link.proofs.laws.faults_exclude_packets.Goals as goal

pub returns : goal.returns
returns c = no_fault
