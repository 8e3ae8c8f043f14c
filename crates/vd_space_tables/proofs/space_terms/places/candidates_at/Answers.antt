use Rattle.std.proofs.Common.{length, ap, arith}
use Rattle.vd_space.specs.Validity.{can_stand}
use Rattle.vd_space_prefix.proofs.Front.{grows}
use Rattle.vd_space_tables.proofs.Few.{few_protocols}
use Rattle.vd_space_tables.proofs.space_terms.places.candidates_at.Goals as goal

pub overflow_cast-place : goal.overflow_cast-place
overflow_cast-place c =
    let few = few_protocols (length c.args.problem.now.hosts) c.requires.list.labelled.few_hosts in
    let same = ap length c.requires.list.all in
    omega (arith, few, same)

pub loop-place-preserved : goal.loop-place-preserved
loop-place-preserved c = grows (can_stand c.args.problem.now c.args.making.now) c.loop-place.place c.loop-place.candidates c.push.new.self c.is_candidate_at.result c.loop-place.invariant c.is_candidate_at.ensures c.in_ok-push.ensures.ok
