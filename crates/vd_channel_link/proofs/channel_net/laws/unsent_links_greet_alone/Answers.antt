use Rattle.vd_channel_link.proofs.Happening.{greet_alone}
use Rattle.vd_channel_link.proofs.channel_net.laws.unsent_links_greet_alone.Goals as goal

pub returns : goal.returns
returns c = greet_alone
