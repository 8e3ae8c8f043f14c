use Rattle.std.proofs.Common.{◌<◌, arith, length, refl, rules, subst, sym}
use Rattle.std.proofs.lemmas.Grind.{common_steps}
use Rattle.vd_outside.specs.Net.{NetView}
use Rattle.vd_channel_link.specs.Courses.{Gives}
use Rattle.vd_channel_link.proofs.Turns.{gives_waiter, looked_at, proved_nothing, waits_on}
use Rattle.vd_channel_link.proofs.Waiting.{taken_out}
use Rattle.vd_channel_link.proofs.channel_net.accepting.look_at_next.Goals as goal

pub returns-then-not-has_come : goal.returns-then-not-has_come
returns-then-not-has_come g c post start turns seal course =
    let next = c.remove-next.result in
    let rest = c.remove-next.new.self.items in
    let some : 0 < length c.args.waiting.now.items = first_of (search rules, grind (arith, common_steps)) in
    let all = taken_out c.args.waiting.now.items rest next some c.remove-next.ensures.value c.remove-next.ensures.items in
    rw (c.push_reserved.ensures.items)
    (waits_on g.N.Link.Link.view post start turns seal (g.N.Net.view c.has_come.new.self) _ rest
    (looked_at g.N.Link.Link.view post start turns seal (g.N.Net.view c.args.net.now) (g.N.Net.view c.has_come.new.self) c.args.waiting.now.items rest next _
    all c.has_come.ensures.net c.has_come.ensures.link refl refl course))

pub returns-in-Ok : goal.returns-in-Ok
returns-in-Ok g c post start turns seal course =
    let next = c.remove-next.result in
    let rest = c.remove-next.new.self.items in
    let some : 0 < length c.args.waiting.now.items = first_of (search rules, grind (arith, common_steps)) in
    let all = taken_out c.args.waiting.now.items rest next some c.remove-next.ensures.value c.remove-next.ensures.items in
    let given = c.in-Ok.ensures {u = tt} in
    subst (λ (n : NetView). Gives g.N.Link.Link.view post start seal n rest c.in-Ok.link.session (g.N.Link.Link.view c.in-Ok.link.link)) (sym given.same)
    (gives_waiter g.N.Link.Link.view post start turns seal (g.N.Net.view c.has_come.new.self) _ rest c.in-Ok.link.session (g.N.Link.Link.view c.in-Ok.link.link)
    (looked_at g.N.Link.Link.view post start turns seal (g.N.Net.view c.args.net.now) (g.N.Net.view c.has_come.new.self) c.args.waiting.now.items rest next
    (record { link = c.has_come.new.link; frame = next.frame; ours = next.ours; theirs = next.theirs })
    all c.has_come.ensures.net c.has_come.ensures.link refl refl course)
    given.met given.told)

pub returns-in-Err : goal.returns-in-Err
returns-in-Err g c post start turns seal course =
    let next = c.remove-next.result in
    let rest = c.remove-next.new.self.items in
    let some : 0 < length c.args.waiting.now.items = first_of (search rules, grind (arith, common_steps)) in
    let all = taken_out c.args.waiting.now.items rest next some c.remove-next.ensures.value c.remove-next.ensures.items in
    let fails = c.in-Err.ensures {u = tt} in
    proved_nothing g.N.Link.Link.view post start turns seal (g.N.Net.view c.has_come.new.self) (g.N.Net.view c.take_proven.new.net) _ rest c.in-Err.fault
    (looked_at g.N.Link.Link.view post start turns seal (g.N.Net.view c.args.net.now) (g.N.Net.view c.has_come.new.self) c.args.waiting.now.items rest next
    (record { link = c.has_come.new.link; frame = next.frame; ours = next.ours; theirs = next.theirs })
    all c.has_come.ensures.net c.has_come.ensures.link refl refl course)
    fails.hung_up fails.given fails.limit fails.over
