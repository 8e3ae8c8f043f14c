use Rattle.vd_noninter.proofs.IntegrityLawsInfluence.{influences_are_enough, influences_are_single}
use Rattle.vd_noninter.proofs.Trusted.{influences_nest}
use Rattle.vd_noninter.proofs.integrity_laws.laws.influences_tell.Goals as goal

pub returns : goal.returns
returns c = record { enough = influences_are_enough; single = influences_are_single; nested = influences_nest }
