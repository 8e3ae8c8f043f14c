use Rattle.std.proofs.Common.{sym, ap, ◌∙◌, length, arith}
use Rattle.vd_space.specs.Validity.{can_stand, protocols}
use Rattle.vd_space.proofs.Candidates.{place_passed}
use Rattle.vd_space.proofs.Few.{few_slice}
use Rattle.vd_space.proofs.validity.has_candidate.Goals as goal

pub overflow_cast-place : goal.overflow_cast-place
overflow_cast-place c =
    let few = few_slice c.args.problem.now c.requires.list.labelled c.args.list.now c.requires.list.all in
    omega (arith, few)

pub loop-place-preserved : goal.loop-place-preserved
loop-place-preserved c =
    let problem = c.args.problem.now in
    let same = ap length c.requires.list.all in
    sym (place_passed (can_stand problem c.args.making.now) c.loop-place.place (length (protocols problem)) (omega (arith, same, c.loop-place-test.true)) (sym c.is_candidate_at.ensures ∙ c.if-is_candidate_at.false)) ∙ c.loop-place.invariant
