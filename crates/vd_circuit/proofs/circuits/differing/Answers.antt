use Rattle.std.proofs.Common.{List, [], ◌∷◌, ◌++◌, sym, ap, ◌∙◌}
use Rattle.vd_backend_sharing.specs.Gates.{Gate, equating}
use Rattle.vd_bits.specs.declared.gates.Gate.TheVariants as gate
use Rattle.vd_bits.specs.BitCalls.{gates_in}
use Rattle.vd_bits.proofs.Front.{on}
use Rattle.vd_circuit.proofs.Tables.{differing}
use Rattle.vd_circuit.proofs.circuits.differing.Goals as goal

pub returns : goal.returns
returns c =
    on c.args.to.now c.equating.new.to c.push.new.self (equating 0 1 2) (c.in_ok-equating.ensures {u = tt}) (gate.Flip 14 ∷ []) (c.in_ok-push.ensures {u = tt}).ok
    ∙ ap (λ (l : List Gate). gates_in c.args.to.now ++ l) (sym differing)
