use Rattle.vd_duet.specs.Calls.{called}
use Rattle.vd_bits.specs.BitCalls.{gates_in, gates_shares}
use Rattle.vd_bits.proofs.Turns.{GatesSoFar}
use Rattle.vd_bits.proofs.xor_pair.XorPair.run.Given as goal

abbrev pub invariant-loop-gate : goal.invariant-loop-gate
invariant-loop-gate l =
    GatesSoFar l.self.0 l.self.1 l.gates l.gate-index l.made l.initial.to.next l.to
    (called (gates_shares l.self.0 l.self.1 (gates_in l.gates) l.initial.made l.initial.to.next) l.initial.to)
