use Rattle.vd_views.proofs.Numbers.{worked}
use Rattle.vd_views.proofs.views_products.worked_product.Goals as goal

pub returns : goal.returns
returns c = worked
