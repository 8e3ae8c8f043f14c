use Rattle.vd_channel_link.proofs.LetIn.{reached}
use Rattle.vd_channel_link.proofs.channel_net.laws.honest_hosts_are_reached.Goals as goal

pub returns : goal.returns
returns c = reached
