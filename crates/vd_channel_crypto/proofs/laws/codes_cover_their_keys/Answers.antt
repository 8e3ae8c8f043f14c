use Rattle.vd_channel_crypto.proofs.Distinct.{codes_cover_their_keys}
use Rattle.vd_channel_crypto.proofs.laws.codes_cover_their_keys.Goals as goal

pub returns : goal.returns
returns c = codes_cover_their_keys
