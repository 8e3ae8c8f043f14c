use Rattle.vd_noninter.proofs.IntegrityLawsTheorem.{declassify_is_robust}
use Rattle.vd_noninter.proofs.integrity_laws.laws.declassifications_are_robust.Goals as goal

pub returns : goal.returns
returns c = λ p l well satisfies set low. declassify_is_robust p l well satisfies set low
