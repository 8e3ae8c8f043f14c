use Rattle.vd_channel_crypto.proofs.Distinct.{one_purpose}
use Rattle.vd_channel_crypto.proofs.laws.keys_have_one_purpose.Goals as goal

pub returns : goal.returns
returns c = one_purpose
