use Rattle.std.proofs.Common.{◌≡◌, drop}
use Rattle.std.specs.Prelude.{◌==◌}
use Rattle.std.specs.List.{list_any}
use Rattle.vd_base.specs.declared.ids.SlotId.{SlotId}
use Rattle.vd_space_prefix.proofs.numbers.is_among.Given as goal

abbrev pub invariant-loop-other : goal.invariant-loop-other
invariant-loop-other l = list_any (λ (s : SlotId). s.0 == l.slot) (drop l.other-index l.slots) ≡ list_any (λ (s : SlotId). s.0 == l.slot) l.slots
