use Rattle.vd_space.specs.Costs.{weigh}
use Rattle.vd_space.specs.Validity.{move_to_host}
use Rattle.vd_space_prefix.proofs.Front.{grows}
use Rattle.vd_space_tables.proofs.values.told_values.Goals as goal

pub loop-place-preserved : goal.loop-place-preserved
loop-place-preserved c = grows (λ p. weigh c.args.weight (move_to_host c.args.problem.now c.args.host p)) c.loop-place.place c.loop-place.values c.push.new.self c.told_at.result c.loop-place.invariant c.told_at.ensures.value c.in_ok-push.ensures.ok
