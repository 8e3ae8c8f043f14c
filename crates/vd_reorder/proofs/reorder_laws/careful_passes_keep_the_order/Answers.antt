use Rattle.std.proofs.Common.{refl}
use Rattle.vd_reorder.proofs.Careful.{careful_passes}
use Rattle.vd_reorder.proofs.reorder_laws.careful_passes_keep_the_order.Goals as goal

pub returns-clause-order : goal.returns-clause-order
returns-clause-order c = careful_passes

pub returns-clause-opened : goal.returns-clause-opened
returns-clause-opened c = (refl, refl)
