use Rattle.vd_channel_link.proofs.Cut.{opened_front}
use Rattle.vd_channel_link.proofs.laws.opened_is_front.Goals as goal

pub returns : goal.returns
returns c = opened_front
