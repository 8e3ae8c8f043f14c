use Rattle.std.proofs.Common.{◌+◌, [], ◌∷◌}
use Rattle.vd_backend_sharing.specs.Gates.{narrowing}
use Rattle.vd_bits.specs.declared.gates.Gate.TheVariants as gate
use Rattle.vd_circuit.proofs.Pieces.{seven_pieces}
use Rattle.vd_circuit.proofs.circuits.equating.Goals as goal

pub returns : goal.returns
returns c =
    seven_pieces c.args.to.now c.extend_from_slice.new.self c.narrowing.new.to c.narrowing-2.new.to c.narrowing-3.new.to c.narrowing-4.new.to c.narrowing-5.new.to c.push.new.self
    (gate.Xor c.args.x c.args.y ∷ gate.Not c.args.n ∷ []) (gate.Lowest (c.args.n + 11) ∷ [])
    (narrowing 16 (c.args.n + 1) (c.args.n + 2)) (narrowing 8 (c.args.n + 3) (c.args.n + 4)) (narrowing 4 (c.args.n + 5) (c.args.n + 6))
    (narrowing 2 (c.args.n + 7) (c.args.n + 8)) (narrowing 1 (c.args.n + 9) (c.args.n + 10))
    (c.in_ok-extend_from_slice.ensures {u = tt}).ok (c.in_ok-narrowing.ensures {u = tt}) (c.in_ok-narrowing-2.ensures {u = tt}) (c.in_ok-narrowing-3.ensures {u = tt})
    (c.in_ok-narrowing-4.ensures {u = tt}) (c.in_ok-narrowing-5.ensures {u = tt}) (c.in_ok-push.ensures {u = tt}).ok
