use Rattle.vd_channel_crypto.proofs.Distinct.{nonces_apart}
use Rattle.vd_channel_crypto.proofs.laws.nonces_are_apart.Goals as goal

pub returns : goal.returns
returns c = nonces_apart
