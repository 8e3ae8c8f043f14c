use Rattle.vd_channel_crypto.proofs.Blocks.{streams_apart}
use Rattle.vd_channel_crypto.proofs.laws.streams_are_apart.Goals as goal

pub returns : goal.returns
returns c = streams_apart
