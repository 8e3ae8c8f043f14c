use Rattle.std.proofs.Common.{◌≡◌, drop}
use Rattle.vd_noninter_protocols.proofs.Runs.{with_operands}
use Rattle.vd_noninter_protocols.proofs.noninter_difference.run.Run.hear_operands.Given as goal

abbrev pub invariant-loop-slot : goal.invariant-loop-slot
invariant-loop-slot l =
    with_operands l.listener l.onto (drop l.slot-index l.slots) l.self ≡ with_operands l.listener l.onto l.slots l.initial.self
