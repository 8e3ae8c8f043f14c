use Rattle.vd_channel_link.proofs.Sent.{carried_on}
use Rattle.vd_channel_link.proofs.laws.sent_is_carried.Goals as goal

pub returns : goal.returns
returns c = carried_on
