use Rattle.std.proofs.Common.{◌*◌, ◌<◌, ◌+◌, arith}
use Rattle.vd_base.specs.declared.ids.HostId.{HostId}
use Rattle.vd_base.specs.HostSets.{host}
use Rattle.vd_base.specs.Holders.{proto_in}
use Rattle.vd_split.proofs.Rooms.{takes_on}
use Rattle.vd_split.proofs.Turns.{deliver_turn, each_left}
use Rattle.vd_split.proofs.moves.deliver.Goals as goal

pub loop-host-preserved : goal.loop-host-preserved
loop-host-preserved g c =
    let o = g.P.Protocols.offer c.args.protocols.now in
    record {
      exact =
          deliver_turn o.calls (proto_in c.args.protos.now) _ _ c.args.hosts.now c.loop-host.host-index _ c.loop-host.index c.push.new.self c.loop-host.to _ c.in_ok-moved.moved c.move_slot.new.to
          c.loop-host-test.true (c.in_ok-moved.ensures {u = tt}).exact (rw c.register.ensures at (c.in_ok-push.ensures {u = tt}).ok) c.loop-host.invariant.exact;
      few = takes_on (2048 * c.loop-host.host-index) 2048 (2048 * (c.loop-host.host-index + 1)) c.args.to.now.next c.loop-host.to.next c.move_slot.new.to.next c.loop-host.invariant.few (c.in_ok-moved.ensures {u = tt}).few (omega arith);
      left = each_left (λ (h : HostId). h.0 < o.calls.hosts) c.args.hosts.now c.loop-host.host-index (host 0) c.loop-host-test.true c.loop-host.invariant.left;
    }
