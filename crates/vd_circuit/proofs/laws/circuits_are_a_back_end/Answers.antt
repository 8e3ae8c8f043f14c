use Rattle.vd_circuit.specs.CircuitCalls.{circuit_serves}
use Rattle.vd_bits.proofs.Front.{circuit_laws, circuit_acts}
use Rattle.vd_circuit.proofs.laws.circuits_are_a_back_end.Goals as goal

pub returns : goal.returns
returns c = λ a b apart. (circuit_laws a b apart circuit_serves (λ o can. can), circuit_acts a b circuit_serves (λ o can. can))
