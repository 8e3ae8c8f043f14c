use Rattle.vd_channel_link.proofs.LetIn.{let_in}
use Rattle.vd_channel_link.proofs.channel_net.laws.honest_hosts_are_let_in.Goals as goal

pub returns : goal.returns
returns c = let_in
