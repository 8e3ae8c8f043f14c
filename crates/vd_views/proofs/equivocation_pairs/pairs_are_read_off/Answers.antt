use Rattle.vd_views.proofs.Programs.{pairs_read}
use Rattle.vd_views.proofs.equivocation_pairs.pairs_are_read_off.Goals as goal

pub returns : goal.returns
returns c = pairs_read
