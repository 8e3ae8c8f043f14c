use Rattle.std.proofs.Common.{◌≡◌, ◌*◌, ◌<◌, drop, slice_index_or}
use Rattle.vd_duet.specs.Builder.{TakesAtMost}
use Rattle.vd_duet.specs.Laws.{Each}
use Rattle.vd_split.specs.Emission.{delivered}
use Rattle.vd_base.specs.Holders.{proto_in}
use Rattle.vd_split.specs.Places.{joined, delivered_onto}
use Rattle.vd_split.proofs.moves.deliver.Given as goal

abbrev pub invariant-loop-host : goal.invariant-loop-host
invariant-loop-host g l = record {
  exact :
      joined l.index (delivered (g.P.Protocols.offer l.protocols).calls (proto_in l.protos) (proto_in l.protos l.slot.0) (slice_index_or l.held l.slot.0 (g.P.Protocols.offer l.protocols).calls.nowhere) (drop l.host-index l.hosts) l.to.next) l.to
      ≡ delivered_onto (g.P.Protocols.offer l.protocols).calls l.protos (proto_in l.protos l.slot.0) (slice_index_or l.held l.slot.0 (g.P.Protocols.offer l.protocols).calls.nowhere) l.hosts l.initial.to;
  few : TakesAtMost (2048 * l.host-index) l.initial.to.next l.to.next;
  left : Each (λ h. h.0 < (g.P.Protocols.offer l.protocols).calls.hosts) (drop l.host-index l.hosts);
}
