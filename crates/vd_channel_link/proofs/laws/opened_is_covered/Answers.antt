use Rattle.vd_channel_link.proofs.Walk.{covered}
use Rattle.vd_channel_link.proofs.laws.opened_is_covered.Goals as goal

pub returns : goal.returns
returns c = covered
