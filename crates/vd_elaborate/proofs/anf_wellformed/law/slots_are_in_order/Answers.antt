use Rattle.vd_elaborate.proofs.Order.{slots_in_order}
use Rattle.vd_elaborate.proofs.anf_wellformed.law.slots_are_in_order.Goals as goal

pub returns : goal.returns
returns c = slots_in_order
