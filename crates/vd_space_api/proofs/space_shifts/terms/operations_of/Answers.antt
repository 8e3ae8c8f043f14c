use Rattle.vd_space_api.specs.Terms.{operation_at}
use Rattle.vd_space_api.proofs.Loops.{grows}
use Rattle.vd_space_api.proofs.space_shifts.terms.operations_of.Goals as goal

pub loop-place-preserved : goal.loop-place-preserved
loop-place-preserved c =
    grows (operation_at c.args.problem.now c.args.making.now) c.loop-place.place c.loop-place.row c.push.new.self c.operation_at.result
    c.loop-place.invariant c.operation_at.ensures c.in_ok-push.ensures.ok
