use Rattle.vd_space_prefix.proofs.Front.{grows}
use Rattle.vd_cost_network_prefix.specs.Reach.{changed_by}
use Rattle.vd_cost_network_prefix.proofs.reach.points_by_slot.Goals as goal

pub loop-slot-preserved : goal.loop-slot-preserved
loop-slot-preserved c = grows (changed_by c.args.problem.now c.args.tables.now) c.loop-slot.slot c.loop-slot.rows c.push.new.self c.in_ok-changed_by.field-0 c.loop-slot.invariant c.in_ok-changed_by.ensures c.in_ok-push.ensures.ok
