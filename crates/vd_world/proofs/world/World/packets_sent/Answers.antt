use Rattle.std.proofs.Common.{length}
use Rattle.vd_world.specs.Hosts.{world_of}
use Rattle.vd_world.specs.Packets.{sent_by}
use Rattle.vd_world.proofs.Packets.{counted_once, one_more}
use Rattle.vd_world.proofs.world.World.packets_sent.Goals as goal

pub loop-from-preserved : goal.loop-from-preserved
loop-from-preserved c =
    let from = sent_by (world_of c.args.self.now) (length c.args.self.now) in
    one_more from c.loop-from.from c.loop-from.packets c.packets_from.result c.plus-packets.result c.loop-from.invariant
    (counted_once c.packets_from.result (from c.loop-from.from) c.packets_from.ensures) c.plus-packets.ensures
