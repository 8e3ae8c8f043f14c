use Rattle.vd_semantics.proofs.Ordered.{comparisons_order}
use Rattle.vd_semantics.proofs.comparisons.comparisons_order.Goals as goal

pub returns : goal.returns
returns c = comparisons_order
