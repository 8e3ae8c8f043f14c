use Rattle.vd_bits.specs.BitCalls.{bit_serves}
use Rattle.vd_circuit.specs.CircuitCalls.{circuit_serves}
use Rattle.vd_backend_laws.proofs.Silent.{clear_tells, sums_tell, circuits_tell, conversions_tell, commitments_tell}
use Rattle.vd_backend_laws.proofs.backend_openings.only_what_is_shown_is_told.Goals as goal

pub returns-clause-copies : goal.returns-clause-copies
returns-clause-copies c = clear_tells

pub returns-clause-sums : goal.returns-clause-sums
returns-clause-sums c = λ a b. sums_tell a b

pub returns-clause-bits : goal.returns-clause-bits
returns-clause-bits c = λ a b. circuits_tell a b bit_serves

pub returns-clause-circuits : goal.returns-clause-circuits
returns-clause-circuits c = λ a b. circuits_tell a b circuit_serves

pub returns-clause-conversions : goal.returns-clause-conversions
returns-clause-conversions c = conversions_tell

pub returns-clause-commitments : goal.returns-clause-commitments
returns-clause-commitments c = commitments_tell
