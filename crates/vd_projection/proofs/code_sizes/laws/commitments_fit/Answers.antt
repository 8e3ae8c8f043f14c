use Rattle.vd_projection.proofs.CommitmentSizes.{committing_fit, revealing_fit}
use Rattle.vd_projection.proofs.code_sizes.laws.commitments_fit.Goals as goal

pub returns-clause-committing : goal.returns-clause-committing
returns-clause-committing c = committing_fit

pub returns-clause-revealing : goal.returns-clause-revealing
returns-clause-revealing c = revealing_fit
