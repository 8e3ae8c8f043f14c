use Rattle.vd_noninter.proofs.IntegrityLawsTheorem.{formula_is_trust, against_is_trust}
use Rattle.vd_noninter.proofs.integrity_laws.laws.who_trusts.Goals as goal

pub returns : goal.returns
returns c = record { formulas = formula_is_trust; attackers = against_is_trust }
