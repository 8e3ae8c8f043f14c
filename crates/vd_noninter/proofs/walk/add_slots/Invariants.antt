use Rattle.std.proofs.Common.{◌≡◌, ◌++◌, map, take}
use Rattle.vd_noninter.specs.declared.edge.Node.TheVariants.{Slot}
use Rattle.vd_noninter.proofs.walk.add_slots.Given as goal

abbrev pub invariant-loop-slot : goal.invariant-loop-slot
invariant-loop-slot l = l.edges ≡ l.initial.edges ++ map (λ y. record { from = l.from; to = Slot y }) (take l.slot-index l.slots)
