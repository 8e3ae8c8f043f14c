use Rattle.vd_noninter.proofs.Trusted.{influences_trusted}
use Rattle.vd_noninter.proofs.integrity_laws.laws.influences_are_trusted.Goals as goal

pub returns : goal.returns
returns c = influences_trusted
