use Rattle.std.proofs.Common.{arith, ℕ, List, length, ap, option_map, refl, ◌∙◌}
use Rattle.std.proofs.lemmas.Result.{err_from_is_err_and}
use Rattle.vd_engine.specs.Drives.{session_view, sessions_of}
use Rattle.vd_host_session.proofs.Courses.{are_met_still}
use Rattle.vd_host_session.proofs.Gathering.{none_met, one_more_met}
use Rattle.vd_host_session.proofs.Refusals.{none_inside}
use Rattle.vd_host_session.proofs.meeting.meet_all.Goals as goal

pub loop-place-init : goal.loop-place-init
loop-place-init g c = record {
  met = none_met c.args.task.now c.args.first _ (sessions_of g.N.Link.Link.view c.args.links.now) (λ host. ap (option_map (session_view g.N.Link.Link.view)) (c.requires.empty host));
  given = refl;
}

pub meet-requires-clause-free : goal.meet-requires-clause-free
meet-requires-clause-free g c = none_inside (session_view g.N.Link.Link.view) _ (c.loop-place.invariant.met.later c.loop-place.place (omega arith))

pub loop-place-preserved : goal.loop-place-preserved
loop-place-preserved g c = record {
  met = one_more_met c.args.task.now c.args.first c.loop-place.place _ _ _ _ _ c.loop-place.invariant.met (c.in_ok-meet.ensures {u = tt}).meets;
  given = c.meet.ensures.given ∙ c.loop-place.invariant.given;
}

pub returns-in_err-meet : goal.returns-in_err-meet
returns-in_err-meet g c =
    let p = err_from_is_err_and c.from_residual.result c.from_residual.ensures.1 in
    let e = (c.in_err-meet.ensures {u = tt}).meets in
    rw (p.1, p.2) (record { count = c.loop-place.place; there = (let long = ap (λ (l : List (List ℕ)). length l) c.as_slice-place-end.ensures in omega (arith, long)); net = g.N.Net.view c.loop-place.net; met = are_met_still c.args.task.now c.args.first c.loop-place.place _ _ _ _ c.loop-place.invariant.met e.1; fails = e.0 })
