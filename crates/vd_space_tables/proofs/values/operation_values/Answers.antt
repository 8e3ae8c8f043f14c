use Rattle.vd_space.specs.Costs.{operation_value}
use Rattle.vd_space_prefix.proofs.Front.{grows}
use Rattle.vd_space_tables.proofs.values.operation_values.Goals as goal

pub loop-place-preserved : goal.loop-place-preserved
loop-place-preserved c = grows (operation_value c.args.problem.now c.args.slot) c.loop-place.place c.loop-place.values c.push.new.self c.operation_at.result c.loop-place.invariant c.operation_at.ensures.value c.in_ok-push.ensures.ok
