use Rattle.vd_views.proofs.AnyOrder.{fronts_in_any_order}
use Rattle.vd_views.proofs.views_programs.any_order_looks_alike.Goals as goal

pub returns : goal.returns
returns c = fronts_in_any_order
