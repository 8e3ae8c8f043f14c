use Rattle.std.proofs.Common.{refl}
use Rattle.vd_views.specs.Items.{pair_item}
use Rattle.vd_excuse_walk.proofs.items.pair_item.Goals as goal

pub returns : goal.returns
unfolding pair_item
returns c = refl
