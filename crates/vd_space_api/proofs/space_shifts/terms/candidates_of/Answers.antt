use Rattle.vd_space.specs.Validity.{can_stand}
use Rattle.vd_space_api.proofs.Loops.{grows}
use Rattle.vd_space_api.proofs.space_shifts.terms.candidates_of.Goals as goal

pub loop-place-preserved : goal.loop-place-preserved
loop-place-preserved c =
    grows (can_stand c.args.problem.now c.args.making.now) c.loop-place.place c.loop-place.candidates c.push.new.self c.is_candidate_at.result
    c.loop-place.invariant c.is_candidate_at.ensures c.in_ok-push.ensures.ok
