use Rattle.vd_choreography_reorder.proofs.Rounds.{answers_first}
use Rattle.vd_choreography_reorder.proofs.laws.answers_come_first.Goals as goal

pub returns : goal.returns
returns c = answers_first
