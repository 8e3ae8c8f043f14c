use Rattle.std.proofs.Common.{◌*◌, ◌+◌, length, arith, []}
use Rattle.vd_split.specs.Offer.{has_parts}
use Rattle.vd_base.specs.Holders.{proto_in}
use Rattle.vd_split.specs.Places.{state}
use Rattle.vd_split.proofs.Rooms.{takes_on}
use Rattle.vd_split.proofs.Turns.{move_turn, all_left, one_more}
use Rattle.vd_split.proofs.moves.move_all.Goals as goal

pub loop-slot-preserved : goal.loop-slot-preserved
loop-slot-preserved g c =
    let o = g.P.Protocols.offer c.args.protocols.now in
    record {
      exact =
          move_turn o.calls (proto_in c.args.protos.now) c.args.onto (state o.calls c.args.protos.now c.args.to.now c.args.held.now []) c.args.slots.now c.loop-slot.slot-index _ c.loop-slot.all c.push.new.self c.loop-slot.to _
          c.in_ok-moved.moved c.move_slot.new.to c.loop-slot-test.true (c.in_ok-moved.ensures {u = tt}).exact (c.in_ok-push.ensures {u = tt}).ok c.loop-slot.invariant.exact;
      few = takes_on (2048 * c.loop-slot.slot-index) 2048 (2048 * (c.loop-slot.slot-index + 1)) c.args.to.now.next c.loop-slot.to.next c.move_slot.new.to.next c.loop-slot.invariant.few (c.in_ok-moved.ensures {u = tt}).few (omega arith);
      left = all_left (has_parts (length c.args.held.now)) c.args.slots.now c.loop-slot.slot-index (record { 0 = 0 }) c.loop-slot-test.true c.loop-slot.invariant.left;
      as_many = one_more c.loop-slot.all c.push.new.self _ _ (c.in_ok-push.ensures {u = tt}).ok c.loop-slot.invariant.as_many;
    }
