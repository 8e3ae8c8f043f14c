use Rattle.vd_projection.proofs.ClearCalls.{clear_fits, spread_fits}
use Rattle.vd_projection.proofs.code_sizes.laws.clear_calls_fit.Goals as goal

pub returns-clause-calls : goal.returns-clause-calls
returns-clause-calls c = λ hosts bound p known. clear_fits hosts bound p known

pub returns-clause-spreading : goal.returns-clause-spreading
returns-clause-spreading c = λ hosts bound set known. spread_fits hosts bound set known
