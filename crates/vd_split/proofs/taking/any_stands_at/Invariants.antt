use Rattle.std.proofs.Common.{◌≡◌, drop}
use Rattle.std.specs.List.{list_any}
use Rattle.vd_base.specs.Holders.{is_holder, proto_in}
use Rattle.vd_split.proofs.taking.any_stands_at.Given as goal

abbrev pub invariant-loop-slot : goal.invariant-loop-slot
invariant-loop-slot l = list_any (λ slot. is_holder (proto_in l.protos slot.0) l.host) (drop l.slot-index l.slots) ≡ list_any (λ slot. is_holder (proto_in l.protos slot.0) l.host) l.slots
