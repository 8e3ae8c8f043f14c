use Rattle.std.proofs.Common.{◌≡◌, drop}
use Rattle.std.specs.List.{list_any}
use Rattle.vd_base.specs.Holders.{proto_in}
use Rattle.vd_split.proofs.acting.acts_in_operands.Given as goal

abbrev pub invariant-loop-slot : goal.invariant-loop-slot
invariant-loop-slot g l =
    list_any (λ slot. (g.P.Protocols.offer l.protocols).calls.moves_at (proto_in l.protos slot.0) l.onto l.host.0) (drop l.slot-index l.slots)
    ≡ list_any (λ slot. (g.P.Protocols.offer l.protocols).calls.moves_at (proto_in l.protos slot.0) l.onto l.host.0) l.slots
