use Rattle.vd_choreography_reorder.proofs.Waiting.{told_later}
use Rattle.vd_choreography_reorder.proofs.choreography_packets.nothing_is_told_earlier.Goals as goal

pub returns : goal.returns
returns c = told_later
