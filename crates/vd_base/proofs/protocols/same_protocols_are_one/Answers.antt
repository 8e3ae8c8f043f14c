use Rattle.vd_base.proofs.Same.{same_is}
use Rattle.vd_base.proofs.protocols.same_protocols_are_one.Goals as goal

pub returns : goal.returns
returns c = same_is
