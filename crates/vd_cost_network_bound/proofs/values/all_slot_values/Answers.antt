use Rattle.vd_space_prefix.proofs.Front.{grows}
use Rattle.vd_cost_network_bound.specs.Bounds.{values_at}
use Rattle.vd_cost_network_bound.proofs.values.all_slot_values.Goals as goal

pub loop-slot-preserved : goal.loop-slot-preserved
loop-slot-preserved c =
    grows (values_at c.args.problem.now) c.loop-slot.slot c.loop-slot.values c.push.new.self c.in_ok-slot_values.field-0 c.loop-slot.invariant c.in_ok-slot_values.ensures c.in_ok-push.ensures.ok
