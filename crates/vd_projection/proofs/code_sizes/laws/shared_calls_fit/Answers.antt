use Rattle.vd_projection.proofs.PairsOfCalls.{sums_fit, circuits_fit}
use Rattle.vd_projection.proofs.code_sizes.laws.shared_calls_fit.Goals as goal

pub returns-clause-sums : goal.returns-clause-sums
returns-clause-sums c = λ hosts bound a b here there. sums_fit hosts bound a b here there

pub returns-clause-circuits : goal.returns-clause-circuits
returns-clause-circuits c = λ hosts bound a b here there. circuits_fit hosts bound a b here there
