use Rattle.vd_choreography_reorder.proofs.Ranking.{apart_ranks}
use Rattle.vd_choreography_reorder.proofs.laws.ranks_are_apart.Goals as goal

pub returns : goal.returns
returns c = apart_ranks
