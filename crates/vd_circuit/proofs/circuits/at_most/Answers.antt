use Rattle.std.proofs.Common.{List, [], ◌∷◌, ◌++◌, sym, ap, ◌∙◌}
use Rattle.vd_backend_sharing.specs.Gates.{Gate, comparing}
use Rattle.vd_bits.specs.declared.gates.Gate.TheVariants as gate
use Rattle.vd_bits.specs.BitCalls.{gates_in}
use Rattle.vd_bits.proofs.Front.{on}
use Rattle.vd_circuit.proofs.Tables.{at_most}
use Rattle.vd_circuit.proofs.circuits.at_most.Goals as goal

pub returns : goal.returns
returns c =
    on c.args.to.now c.comparing.new.to c.push.new.self (comparing 1 0 2) (c.in_ok-comparing.ensures {u = tt}) (gate.Flip 28 ∷ []) (c.in_ok-push.ensures {u = tt}).ok
    ∙ ap (λ (l : List Gate). gates_in c.args.to.now ++ l) (sym at_most)
