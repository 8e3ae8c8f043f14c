use Rattle.vd_bits.proofs.Turns.{gates_turn}
use Rattle.vd_bits.proofs.xor_pair.XorPair.run.Goals as goal

pub loop-gate-preserved : goal.loop-gate-preserved
loop-gate-preserved c =
    gates_turn c.args.self.now.0 c.args.self.now.1 c.args.gates.now c.loop-gate.gate-index _ c.loop-gate.made c.as_slice.result.now c.push.new.self c.args.to.now.next c.loop-gate.to _ _
    c.emit.new.to c.loop-gate-test.true c.as_slice.ensures (c.in_ok-word.ensures {u = tt}).exact (c.in_ok-word.ensures {u = tt}).few (c.in_ok-push.ensures {u = tt}).ok c.loop-gate.invariant
