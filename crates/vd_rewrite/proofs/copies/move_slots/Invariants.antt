use Rattle.std.proofs.Common.{◌≡◌, map, take}
use Rattle.vd_rewrite.specs.Rewriting.{moved}
use Rattle.vd_rewrite.proofs.copies.move_slots.Given as goal

abbrev pub invariant-loop-slot : goal.invariant-loop-slot
invariant-loop-slot l = l.list ≡ map (moved l.table) (take l.slot-index l.slots)
