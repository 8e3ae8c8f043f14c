use Rattle.std.proofs.Common.{length, ap}
use Rattle.vd_world.specs.Hosts.{world_of}
use Rattle.vd_world.specs.Packets.{counted}
use Rattle.vd_world.proofs.Packets.{one_more}
use Rattle.vd_world.proofs.world.World.packets_from.Goals as goal

pub loop-to-preserved : goal.loop-to-preserved
loop-to-preserved c =
    one_more (λ p. length ((world_of c.args.self.now c.args.from).sent p)) c.loop-to.to c.loop-to.packets c.packets_between.result c.plus-packets.result c.loop-to.invariant
    (ap counted c.packets_between.ensures) c.plus-packets.ensures
