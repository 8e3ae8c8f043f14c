use Rattle.vd_choreography_reorder.proofs.Order.{order_kept}
use Rattle.vd_choreography_reorder.proofs.laws.order_is_kept.Goals as goal

pub returns : goal.returns
returns c = order_kept
