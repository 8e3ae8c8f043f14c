use Rattle.vd_choreography_reorder.proofs.Stable.{stand_by_rank}
use Rattle.vd_choreography_reorder.proofs.laws.order_is_sorted.Goals as goal

pub returns : goal.returns
returns c = stand_by_rank
