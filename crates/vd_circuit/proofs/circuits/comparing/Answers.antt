use Rattle.std.proofs.Common.{◌+◌, [], ◌∷◌}
use Rattle.vd_backend_sharing.specs.Gates.{carrying}
use Rattle.vd_bits.specs.declared.gates.Gate.TheVariants as gate
use Rattle.vd_bits.proofs.Front.{three_pieces}
use Rattle.vd_circuit.proofs.circuits.comparing.Goals as goal

pub returns : goal.returns
returns c =
    three_pieces c.args.to.now c.push.new.self c.carrying.new.to c.push-2.new.self (gate.Not c.args.x ∷ []) (gate.Shr 31 (c.args.n + 25) ∷ [])
    (carrying c.args.n c.args.y (c.args.n + 1)) (c.in_ok-push.ensures {u = tt}).ok (c.in_ok-carrying.ensures {u = tt}) (c.in_ok-push-2.ensures {u = tt}).ok
