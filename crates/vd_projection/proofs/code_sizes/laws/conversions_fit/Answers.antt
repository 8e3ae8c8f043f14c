use Rattle.vd_projection.proofs.Conversions.{to_bits_fit, to_sums_fit}
use Rattle.vd_projection.proofs.code_sizes.laws.conversions_fit.Goals as goal

pub returns-clause-to_bits : goal.returns-clause-to_bits
returns-clause-to_bits c = λ hosts bound a b here there. to_bits_fit hosts bound a b here there

pub returns-clause-to_sums : goal.returns-clause-to_sums
returns-clause-to_sums c = λ hosts bound a b here there. to_sums_fit hosts bound a b here there
