use Rattle.vd_noninter.proofs.IntegrityLawsTheorem.{trusted_is_kept}
use Rattle.vd_noninter.proofs.integrity_laws.laws.trusted_words_are_kept.Goals as goal

pub returns : goal.returns
returns c = λ p l well satisfies. trusted_is_kept p l well satisfies
