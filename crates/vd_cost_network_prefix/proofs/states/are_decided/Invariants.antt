use Rattle.std.proofs.Common.{◌≡◌, drop, slice_get}
use Rattle.std.specs.Prelude.{is_some}
use Rattle.std.specs.List.{list_all}
use Rattle.vd_base.specs.declared.ids.SlotId.{SlotId}
use Rattle.vd_cost_network_prefix.proofs.states.are_decided.Given as goal

abbrev pub invariant-loop-slot : goal.invariant-loop-slot
invariant-loop-slot l = list_all (λ (slot : SlotId). is_some (slice_get l.prefix slot.0)) (drop l.slot-index l.slots) ≡ list_all (λ (slot : SlotId). is_some (slice_get l.prefix slot.0)) l.slots
