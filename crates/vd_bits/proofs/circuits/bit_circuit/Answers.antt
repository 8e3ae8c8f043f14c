use Rattle.std.proofs.Common.{List, ◌++◌, ap, ◌∙◌}
use Rattle.vd_backend_sharing.specs.Gates.{gates_of}
use Rattle.vd_bits.specs.declared.gates.Gate.{Gate}
use Rattle.vd_bits.specs.BitCalls.{gates_in}
use Rattle.vd_bits.proofs.Lists.{bits_short}
use Rattle.vd_bits.proofs.circuits.bit_circuit.Goals as goal

pub returns-clause-short : goal.returns-clause-short
returns-clause-short c =
    bits_short c.args.op c.bit_gates.new.to c.requires
    (c.in_ok-bit_gates.ensures {u = tt} ∙ ap (λ (l : List Gate). gates_in l ++ gates_of c.args.op) c.new-gates.ensures)
