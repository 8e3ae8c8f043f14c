use Rattle.vd_channel_link.proofs.Walk.{sent}
use Rattle.vd_channel_link.proofs.laws.opened_is_sent.Goals as goal

pub returns : goal.returns
returns c = sent
