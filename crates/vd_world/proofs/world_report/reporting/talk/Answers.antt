use Rattle.vd_world.specs.Hosts.{world_of}
use Rattle.vd_world.specs.Reports.{said_by}
use Rattle.vd_world.proofs.Lists.{grows}
use Rattle.vd_world.proofs.world_report.reporting.talk.Goals as goal

pub loop-from-preserved : goal.loop-from-preserved
loop-from-preserved c =
    grows (said_by (world_of c.args.world.now) c.args.hosts) c.loop-from.from c.loop-from.talk c.push.new.self _ c.loop-from.invariant (c.in_ok-said.ensures {u = tt}) c.in_ok-push.ensures.ok
