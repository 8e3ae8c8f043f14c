use Rattle.std.proofs.Common.{◌∙◌}
use Rattle.vd_execution.specs.World.{words_of}
use Rattle.vd_world.specs.Hosts.{world_of}
use Rattle.vd_world.proofs.Lists.{grows}
use Rattle.vd_world.proofs.world_report.reporting.said.Goals as goal

pub loop-to-preserved : goal.loop-to-preserved
loop-to-preserved c =
    grows (λ p. words_of ((world_of c.args.world.now c.args.from).sent p)) c.loop-to.to c.loop-to.said c.push.new.self _ c.loop-to.invariant
    (c.in_ok-from_slice.ensures {u = tt} ∙ c.talk.ensures) c.in_ok-push.ensures.ok
