use Rattle.vd_channel_crypto.proofs.Purposes.{apart}
use Rattle.vd_channel_crypto.proofs.deal_keys.laws.purposes_are_apart.Goals as goal

pub returns : goal.returns
returns c = apart
