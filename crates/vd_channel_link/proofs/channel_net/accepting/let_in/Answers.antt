use Rattle.std.proofs.Common.{◌≡◌, ◌∙◌, Err, Ok, arith, false, rules, subst, sym, ℕ}
use Rattle.std.proofs.lemmas.Grind.{common_steps}
use Rattle.std.proofs.lemmas.Result.{err_from_is_err_and}
use Rattle.vd_outside.specs.Net.{Accepts}
use Rattle.vd_channel_link.specs.Seals.{IsAnswered, IsMet}
use Rattle.vd_channel_link.proofs.Turns.{answered_of, hung_up_of, met_at_once, no_room, nobody, not_given, numbers_used, one_came, turned_away}
use Rattle.vd_channel_link.proofs.channel_net.accepting.let_in.Goals as goal

pub returns-then-tried-eq4294967295-clause-ends : goal.returns-then-tried-eq4294967295-clause-ends
returns-then-tried-eq4294967295-clause-ends g c post start turns at by course =
    let used : c.args.seal.now.tried ≡ 4294967295 = first_of (search rules, grind (arith, common_steps)) in
    numbers_used g.N.Link.Link.view post start turns c.args.seal.now (g.N.Net.view c.args.net.now) c.args.waiting.now.items used course

pub returns-in_err-reserve-clause-ends : goal.returns-in_err-reserve-clause-ends
returns-in_err-reserve-clause-ends g c post start turns at by course =
    let p = err_from_is_err_and c.from_residual.result c.from_residual.ensures.1 in
    rw (p.1, p.2, c.reserve.ensures.items) (no_room g.N.Link.Link.view post start turns c.args.seal.now (g.N.Net.view c.args.net.now) c.args.waiting.now.items course)

pub returns-in_err-frame-clause-ends : goal.returns-in_err-frame-clause-ends
returns-in_err-frame-clause-ends g c post start turns at by course =
    let p = err_from_is_err_and c.from_residual-in_err-frame.result c.from_residual-in_err-frame.ensures.1 in
    rw (p.1, p.2, c.reserve.ensures.items) (no_room g.N.Link.Link.view post start turns c.args.seal.now (g.N.Net.view c.args.net.now) c.args.waiting.now.items course)

pub returns-in_err-link-clause-ends : goal.returns-in_err-link-clause-ends
returns-in_err-link-clause-ends g c post start turns at by course =
    let p = err_from_is_err_and c.from_residual-in_err-link.result c.from_residual-in_err-link.ensures.1 in
    let accepts = subst (λ (l : ℕ). Accepts l (g.N.Net.view c.args.net.now) (g.N.Net.view c.next_comer.new.self) (Err c.in_err-link.field-0.0)) (sym at) (c.in_err-link.ensures {u = tt}).looks in
    rw (p.1, p.2, c.reserve.ensures.items)
    (not_given g.N.Link.Link.view post start turns c.args.seal.now (g.N.Net.view c.args.net.now) (g.N.Net.view c.next_comer.new.self) c.args.waiting.now.items c.in_err-link.field-0.0 course accepts)

pub returns-in_default-clause-comes : goal.returns-in_default-clause-comes
returns-in_default-clause-comes g c post start turns at by course =
    let there : ((g.N.Net.view c.args.net.now).told ≡ false) × (g.N.Net.view c.next_comer.new.self ≡ g.N.Net.view c.args.net.now) =
    rw c.in_default.is at (c.in_ok-link.ensures {u = tt}).looks in
    rw c.reserve.ensures.items
    (nobody g.N.Link.Link.view post start turns c.args.seal.now (g.N.Net.view c.args.net.now) (g.N.Net.view c.next_comer.new.self) c.args.waiting.now.items course there.0 there.1)

pub returns-in-Ok-Met-clause-comes : goal.returns-in-Ok-Met-clause-comes
returns-in-Ok-Met-clause-comes g c post start turns at by course =
    let before = g.N.Net.view c.args.net.now in
    let given = g.N.Net.view c.next_comer.new.self in
    let came = g.N.Link.Link.view c.in-Some.link in
    let accepts : Accepts c.args.listener before given (Ok came) = rw c.in-Some.is at (c.in_ok-link.ensures {u = tt}).looks in
    let greeted = c.in-Ok-Met.ensures {u = tt} in
    let met : IsMet c.args.seal.now c.greet.new.seal.tried c.awaited_at-peer.result.0 c.in-Ok-Met.link.session came (g.N.Link.Link.view c.in-Ok-Met.link.link) =
    rw c.in-Ok-Met.field-0-is at greeted.greeted in
    rw (greeted.same, c.reserve.ensures.items)
    (met_at_once g.N.Link.Link.view post start turns c.args.seal.now c.greet.new.seal before given c.args.waiting.now.items c.awaited_at-peer.result.0
    c.in-Ok-Met.link.session came (g.N.Link.Link.view c.in-Ok-Met.link.link) course c.greet.ensures.kept
    (subst (λ (l : ℕ). Accepts l before given (Ok came)) (sym at) accepts) (c.awaited_at-peer.ensures ∙ sym by) met)

pub returns-in-Ok-Waits-clause-comes : goal.returns-in-Ok-Waits-clause-comes
returns-in-Ok-Waits-clause-comes g c post start turns at by course =
    let before = g.N.Net.view c.args.net.now in
    let given = g.N.Net.view c.next_comer.new.self in
    let came = g.N.Link.Link.view c.in-Some.link in
    let host = c.in-Ok-Waits.answered in
    let now = g.N.Link.Link.view c.in-Ok-Waits.answered.link in
    let peer = c.awaited_at-peer.result.0 in
    let accepts : Accepts c.args.listener before given (Ok came) = rw c.in-Some.is at (c.in_ok-link.ensures {u = tt}).looks in
    let greeted = c.in-Ok-Waits.ensures {u = tt} in
    let waits : (now.told ≡ false) × IsAnswered c.args.seal.now c.greet.new.seal.tried peer (host.ours, host.theirs) came now =
    rw c.in-Ok-Waits.field-0-is at greeted.greeted in
    rw (greeted.same, c.push_reserved.ensures.items, c.reserve.ensures.items)
    (one_came g.N.Link.Link.view post start turns c.args.seal.now c.greet.new.seal before given c.args.waiting.now.items host came course c.greet.ensures.kept
    (subst (λ (l : ℕ). Accepts l before given (Ok came)) (sym at) accepts) waits.0
    (answered_of post.seal c.args.seal.now c.greet.new.seal.tried peer post.peer (host.ours, host.theirs) came now course.stays.kept (c.awaited_at-peer.ensures ∙ sym by) waits.1))

pub returns-in-Err-clause-comes : goal.returns-in-Err-clause-comes
returns-in-Err-clause-comes g c post start turns at by course =
    let before = g.N.Net.view c.args.net.now in
    let given = g.N.Net.view c.next_comer.new.self in
    let after = g.N.Net.view c.greet.new.net in
    let came = g.N.Link.Link.view c.in-Some.link in
    let peer = c.awaited_at-peer.result.0 in
    let accepts : Accepts c.args.listener before given (Ok came) = rw c.in-Some.is at (c.in_ok-link.ensures {u = tt}).looks in
    let fails = c.in-Err.ensures {u = tt} in
    rw c.reserve.ensures.items
    (turned_away g.N.Link.Link.view post start turns c.args.seal.now c.greet.new.seal before given after c.args.waiting.now.items came c.in-Err.fault course c.greet.ensures.kept
    (subst (λ (l : ℕ). Accepts l before given (Ok came)) (sym at) accepts) c.greet.ensures.given c.greet.ensures.limit c.greet.ensures.over
    (hung_up_of post.seal c.args.seal.now peer post.peer came c.in-Err.fault given after course.stays.kept (c.awaited_at-peer.ensures ∙ sym by) fails.hung_up))
