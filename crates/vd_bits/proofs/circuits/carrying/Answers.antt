use Rattle.std.proofs.Common.{◌+◌, [], ◌∷◌}
use Rattle.vd_backend_sharing.specs.Gates.{doubling}
use Rattle.vd_bits.specs.declared.gates.Gate.TheVariants as gate
use Rattle.vd_bits.proofs.Lists.{six_pieces}
use Rattle.vd_bits.proofs.circuits.carrying.Goals as goal

pub returns : goal.returns
returns c =
    six_pieces c.args.to.now c.extend_from_slice.new.self c.doubling.new.to c.doubling-2.new.to c.doubling-3.new.to c.doubling-4.new.to c.extend_from_slice-2.new.self
    (gate.And c.args.x c.args.y ∷ gate.Xor c.args.x c.args.y ∷ [])
    (gate.Shl 16 (c.args.n + 21) ∷ gate.And (c.args.n + 20) (c.args.n + 22) ∷ gate.Xor (c.args.n + 21) (c.args.n + 23) ∷ [])
    (doubling 1 c.args.n (c.args.n + 1) (c.args.n + 2)) (doubling 2 (c.args.n + 6) (c.args.n + 5) (c.args.n + 7))
    (doubling 4 (c.args.n + 11) (c.args.n + 10) (c.args.n + 12)) (doubling 8 (c.args.n + 16) (c.args.n + 15) (c.args.n + 17))
    (c.in_ok-extend_from_slice.ensures {u = tt}).ok (c.in_ok-doubling.ensures {u = tt}) (c.in_ok-doubling-2.ensures {u = tt})
    (c.in_ok-doubling-3.ensures {u = tt}) (c.in_ok-doubling-4.ensures {u = tt}) (c.in_ok-extend_from_slice-2.ensures {u = tt}).ok
