use Rattle.std.proofs.Common.{◌≡◌, ap, arith, List, refl, subst, sym}
use Rattle.std.proofs.lemmas.Result.{err_from_is_err_and}
use Rattle.vd_channel_link.specs.Courses.{Course}
use Rattle.vd_channel_link.specs.Seals.{awaited_at}
use Rattle.vd_channel_link.specs.Waits.{post_of}
use Rattle.vd_channel_link.specs.declared.channel_net.answered.Answered.{Answered}
use Rattle.vd_channel_link.specs.declared.channel_net.seal.Seal.{Seal}
use Rattle.vd_channel_link.proofs.Turns.{begins, turns_taken}
use Rattle.vd_channel_link.proofs.channel_net.accepting.await_peer.Goals as goal

pub loop-init : goal.loop-init
loop-init g c =
    let post = post_of c.args.seal.now c.args.listener in
    let start = g.N.Net.view c.args.net.now in
    record {
      course = subst (λ (l : List (Answered g.row.N-Link.Denot)). Course g.N.Link.Link.view post start 0 c.args.seal.now start l) (sym c.requires.none)
          (begins g.N.Link.Link.view post c.args.seal.now start refl);
    }

pub let_in-requires-clause-listener : goal.let_in-requires-clause-listener
let_in-requires-clause-listener g c =
    let post = post_of c.args.seal.now c.args.listener in
    let start = g.N.Net.view c.args.net.now in
    let looked = (c.in_default.ensures {u = tt}) post start c.loop.counter c.loop.seal c.loop.invariant.course in
    let room = c.make_room.ensures post start c.loop.counter c.loop.seal looked in
    rw room.stays.given c.requires.listener

pub returns-in_err-link-clause-ends : goal.returns-in_err-link-clause-ends
returns-in_err-link-clause-ends g c =
    let post = post_of c.args.seal.now c.args.listener in
    let start = g.N.Net.view c.args.net.now in
    let looked = (c.in_default.ensures {u = tt}) post start c.loop.counter c.loop.seal c.loop.invariant.course in
    let room = c.make_room.ensures post start c.loop.counter c.loop.seal looked in
    let peer : awaited_at c.args.seal.now c.args.listener ≡ awaited_at c.loop.seal c.args.listener = sym (ap (λ (s : Seal). awaited_at s c.args.listener) room.stays.kept.same) in
    let p = err_from_is_err_and c.from_residual.result c.from_residual.ensures.1 in
    rw (p.1, p.2) ((c.in_err-link.ensures {u = tt}).ends post start c.loop.counter refl peer room)

pub returns-in-Some-2-clause-gives : goal.returns-in-Some-2-clause-gives
returns-in-Some-2-clause-gives g c =
    let post = post_of c.args.seal.now c.args.listener in
    let start = g.N.Net.view c.args.net.now in
    let looked = (c.in_default.ensures {u = tt}) post start c.loop.counter c.loop.seal c.loop.invariant.course in
    let room = c.make_room.ensures post start c.loop.counter c.loop.seal looked in
    let peer : awaited_at c.args.seal.now c.args.listener ≡ awaited_at c.loop.seal c.args.listener = sym (ap (λ (s : Seal). awaited_at s c.args.listener) room.stays.kept.same) in
    rw c.in-Some-2.is at ((c.in_ok-link.ensures {u = tt}).comes post start c.loop.counter refl peer room)

pub loop-preserved : goal.loop-preserved
loop-preserved g c =
    let post = post_of c.args.seal.now c.args.listener in
    let start = g.N.Net.view c.args.net.now in
    let looked = (c.in_default.ensures {u = tt}) post start c.loop.counter c.loop.seal c.loop.invariant.course in
    let room = c.make_room.ensures post start c.loop.counter c.loop.seal looked in
    let peer : awaited_at c.args.seal.now c.args.listener ≡ awaited_at c.loop.seal c.args.listener = sym (ap (λ (s : Seal). awaited_at s c.args.listener) room.stays.kept.same) in
    record { course = rw c.in_default-2.is at ((c.in_ok-link.ensures {u = tt}).comes post start c.loop.counter refl peer room) }

pub returns-clause-ends : goal.returns-clause-ends
returns-clause-ends g c =
    let least = c.loop-test.false in
    let most = c.loop.auto.counter-end in
    turns_taken g.N.Link.Link.view (post_of c.args.seal.now c.args.listener) (g.N.Net.view c.args.net.now) c.loop.counter c.loop.seal (g.N.Net.view c.loop.net) c.loop.waiting.items
    (omega (arith, least, most)) c.loop.invariant.course
