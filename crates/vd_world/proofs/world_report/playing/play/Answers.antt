use Rattle.std.proofs.Common.{◌∙◌}
use Rattle.vd_world.specs.Schedules.{replayed}
use Rattle.vd_world.proofs.world_report.playing.play.Goals as goal

pub returns-clause-world : goal.returns-clause-world
returns-clause-world c = λ j of_joint.
    (c.in_ok-follow.ensures {u = tt}).world
    ∙ (λ i. replayed ((c.in_ok-world.ensures {u = tt}).supply i) ((c.in_ok-world.ensures {u = tt}).hosts i) c.args.schedule.now ((c.in_ok-world.ensures {u = tt}).world j of_joint i))
