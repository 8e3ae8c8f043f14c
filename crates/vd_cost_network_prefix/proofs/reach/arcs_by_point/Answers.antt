use Rattle.vd_space_prefix.proofs.Front.{grows}
use Rattle.vd_cost_network_prefix.specs.Reach.{arcs_at}
use Rattle.vd_cost_network_prefix.proofs.reach.arcs_by_point.Goals as goal

pub loop-point-preserved : goal.loop-point-preserved
loop-point-preserved c = grows (arcs_at c.args.arcs.now) c.loop-point.point c.loop-point.rows c.push.new.self c.in_ok-arcs_at.field-0 c.loop-point.invariant c.in_ok-arcs_at.ensures c.in_ok-push.ensures.ok
