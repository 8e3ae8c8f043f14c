use Rattle.vd_channel_link.proofs.Ends.{same_keys}
use Rattle.vd_channel_link.proofs.channel_handshake.laws.ends_have_the_same_keys.Goals as goal

pub returns : goal.returns
returns c = same_keys
