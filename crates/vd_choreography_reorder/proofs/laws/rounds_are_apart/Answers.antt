use Rattle.vd_choreography_reorder.proofs.Rounds.{apart_rounds}
use Rattle.vd_choreography_reorder.proofs.laws.rounds_are_apart.Goals as goal

pub returns : goal.returns
returns c = apart_rounds
