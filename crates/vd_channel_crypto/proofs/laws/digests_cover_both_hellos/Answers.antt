use Rattle.vd_channel_crypto.proofs.Distinct.{both_hellos}
use Rattle.vd_channel_crypto.proofs.laws.digests_cover_both_hellos.Goals as goal

pub returns : goal.returns
returns c = both_hellos
