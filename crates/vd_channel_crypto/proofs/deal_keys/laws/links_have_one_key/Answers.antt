use Rattle.vd_channel_crypto.proofs.Purposes.{one_key}
use Rattle.vd_channel_crypto.proofs.deal_keys.laws.links_have_one_key.Goals as goal

pub returns : goal.returns
returns c = one_key
