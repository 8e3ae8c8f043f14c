use Rattle.vd_channel_link.proofs.LetIn.{hosts_meet}
use Rattle.vd_channel_link.proofs.channel_net.laws.hosts_of_a_dealing_meet.Goals as goal

pub returns : goal.returns
returns c = hosts_meet
