use Rattle.vd_views.proofs.Moved.{moves_well}
use Rattle.vd_views.proofs.own_words_can_be_moved.Goals as goal

pub returns : goal.returns
returns c = moves_well
