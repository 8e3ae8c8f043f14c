use Rattle.vd_noninter.proofs.IntegrityLawsTheorem.{endorse_is_transparent}
use Rattle.vd_noninter.proofs.integrity_laws.laws.endorsements_are_transparent.Goals as goal

pub returns : goal.returns
returns c = λ p l well satisfies set low. endorse_is_transparent p l well satisfies set low
