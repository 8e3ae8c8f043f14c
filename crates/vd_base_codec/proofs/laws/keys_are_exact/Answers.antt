use Rattle.vd_base_codec.proofs.Exact.{key_exact}
use Rattle.vd_base_codec.proofs.laws.keys_are_exact.Goals as goal

pub returns : goal.returns
returns c = key_exact
