use Rattle.std.proofs.Common.{◌≡◌, drop}
use Rattle.std.specs.List.{list_any}
use Rattle.vd_noninter_protocols.specs.Parts.{slot_held}
use Rattle.vd_noninter_protocols.proofs.noninter_difference.listener.Listener.holds_any.Given as goal

abbrev pub invariant-loop-slot : goal.invariant-loop-slot
invariant-loop-slot l = list_any (slot_held l.self) (drop l.slot-index l.slots) ≡ list_any (slot_held l.self) l.slots
