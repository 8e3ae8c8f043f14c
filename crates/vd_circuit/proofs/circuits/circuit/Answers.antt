use Rattle.std.proofs.Common.{List, ◌++◌, ap, ◌∙◌}
use Rattle.vd_backend_sharing.specs.Gates.{gates_of}
use Rattle.vd_bits.specs.declared.gates.Gate.{Gate}
use Rattle.vd_bits.specs.BitCalls.{gates_in}
use Rattle.vd_circuit.proofs.Tables.{short}
use Rattle.vd_circuit.proofs.circuits.circuit.Goals as goal

pub returns-clause-short : goal.returns-clause-short
returns-clause-short c =
    short c.args.op c.gates.new.to (c.in_ok-gates.ensures {u = tt} ∙ ap (λ (l : List Gate). gates_in l ++ gates_of c.args.op) c.new-made.ensures) c.requires
