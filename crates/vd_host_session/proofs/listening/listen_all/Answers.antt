use Rattle.std.proofs.Common.{arith, ℕ, List, length, ap}
use Rattle.vd_host_session.proofs.Listeners.{listening_all, listening_more, listening_none, unheard_at}
use Rattle.vd_host_session.proofs.listening.listen_all.Goals as goal

pub loop-place-init : goal.loop-place-init
loop-place-init g c = listening_none c.args.task.now (g.N.Net.view c.args.net.now)

pub loop-place-preserved : goal.loop-place-preserved
loop-place-preserved g c =
    listening_more c.args.task.now _ _ _ c.loop-place.place c.loop-place.first c.in-Ok.number _ c.address_at.result.now c.loop-place.invariant c.address_at.ensures (c.in-Ok.ensures {u = tt}) c.first_listener-first.ensures.same c.first_listener-first.ensures.other

pub returns-in-Err : goal.returns-in-Err
returns-in-Err g c =
    unheard_at c.args.task.now _ _ _ c.loop-place.place c.loop-place.first c.peer_at.result.0 c.address_at.result.now c.in-Err.fault _ (let long = ap (λ (l : List (List ℕ)). length l) c.as_slice-place-end.ensures in omega (arith, long)) c.loop-place.invariant c.address_at.ensures (c.in-Err.ensures {u = tt}) c.peer_at.ensures c.fault_of.ensures

pub returns : goal.returns
returns g c = listening_all c.args.task.now _ _ c.loop-place.place c.loop-place.first (let long = ap (λ (l : List (List ℕ)). length l) c.as_slice-place-end.ensures in let own = c.requires.own in omega (arith, long, own)) c.loop-place.invariant
