use Rattle.std.proofs.Common.{◌≡◌, ◌*◌, IsTrue, drop, length, []}
use Rattle.std.specs.List.{list_all}
use Rattle.vd_duet.specs.Builder.{TakesAtMost}
use Rattle.vd_split.specs.Emission.{all_moved}
use Rattle.vd_split.specs.Offer.{has_parts}
use Rattle.vd_base.specs.Holders.{proto_in}
use Rattle.vd_split.specs.Places.{joined, moved_onto, state}
use Rattle.vd_split.proofs.moves.move_all.Given as goal

abbrev pub invariant-loop-slot : goal.invariant-loop-slot
invariant-loop-slot g l = record {
  exact :
      joined l.all (all_moved (g.P.Protocols.offer l.protocols).calls (proto_in l.protos) l.onto (state (g.P.Protocols.offer l.protocols).calls l.protos l.initial.to l.held []) (drop l.slot-index l.slots) l.to.next) l.to
      ≡ moved_onto (g.P.Protocols.offer l.protocols).calls l.protos l.onto l.held l.slots l.initial.to;
  few : TakesAtMost (2048 * l.slot-index) l.initial.to.next l.to.next;
  left : IsTrue (list_all (has_parts (length l.held)) (drop l.slot-index l.slots));
  as_many : length l.all ≡ l.slot-index;
}
