use Rattle.vd_circuit.proofs.Numbers.{twelve_with_ten}
use Rattle.vd_circuit.proofs.laws.worked_circuits.Goals as goal

pub returns : goal.returns
returns c = twelve_with_ten
