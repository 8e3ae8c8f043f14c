use Rattle.std.proofs.Common.{◌+◌, [], ◌∷◌}
use Rattle.vd_backend_sharing.specs.Gates.{adding}
use Rattle.vd_bits.specs.declared.gates.Gate.TheVariants as gate
use Rattle.vd_bits.proofs.Lists.{three_pieces}
use Rattle.vd_bits.proofs.circuits.subtracting.Goals as goal

pub returns : goal.returns
returns c =
    three_pieces c.args.to.now c.push.new.self c.adding.new.to c.push-2.new.self (gate.Not c.args.x ∷ []) (gate.Not (c.args.n + 27) ∷ [])
    (adding c.args.n c.args.y (c.args.n + 1)) (c.in_ok-push.ensures {u = tt}).ok (c.in_ok-adding.ensures {u = tt}) (c.in_ok-push-2.ensures {u = tt}).ok
