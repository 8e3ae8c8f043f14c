use Rattle.std.proofs.Common.{List, ◌++◌, sym, ap, ◌∙◌}
use Rattle.vd_backend_sharing.specs.Gates.{Gate, comparing, choosing}
use Rattle.vd_bits.specs.BitCalls.{gates_in}
use Rattle.vd_bits.proofs.Front.{more}
use Rattle.vd_circuit.proofs.Tables.{lesser}
use Rattle.vd_circuit.proofs.circuits.lesser.Goals as goal

pub returns : goal.returns
returns c =
    more c.args.to.now c.comparing.new.to c.choosing.new.to (comparing 0 1 2) (choosing 28 0 1 29) (c.in_ok-comparing.ensures {u = tt}) (c.in_ok-choosing.ensures {u = tt})
    ∙ ap (λ (l : List Gate). gates_in c.args.to.now ++ l) (sym lesser)
