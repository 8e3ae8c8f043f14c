use Rattle.std.proofs.Common.{◌∙◌}
use Rattle.vd_world.specs.Hosts.{supply_of, world_of}
use Rattle.vd_world.specs.Reports.{line_of}
use Rattle.vd_world.proofs.Lists.{grows}
use Rattle.vd_world.proofs.world_report.reporting.lines.Goals as goal

pub loop-number-preserved : goal.loop-number-preserved
loop-number-preserved c =
    grows (line_of (supply_of c.args.world.now) (world_of c.args.world.now)) c.loop-number.number c.loop-number.lines c.push.new.self _ c.loop-number.invariant
    (λ i. record { state = c.state.ensures i; printed = (c.in_ok-printed.ensures {u = tt} ∙ c.printed.ensures) i }) c.in_ok-push.ensures.ok
