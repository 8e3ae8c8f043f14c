use Rattle.std.proofs.Common.{◌≡◌, ◌≢◌, ◌∷◌, [], length, rules, arith}
use Rattle.std.proofs.lemmas.Grind.{common_steps}
use Rattle.vd_channel_link.proofs.Refused.{told}
use Rattle.vd_channel_link.proofs.Greeted.{taken}
use Rattle.vd_channel_link.proofs.Refusing.{other_dealing, other_hosts, other_version}
use Rattle.vd_channel_link.proofs.channel_handshake.meeting.take_hello.Goals as goal

pub returns-clause-takes : goal.returns-clause-takes
returns-clause-takes g c =
    let version : c.fill.new.into ≡ 0x47 ∷ 2 ∷ [] = search rules in
    let heard : c.fill-2.new.into ≡ c.args.id.now = search rules in
    let ends : c.fill-3.new.into ≡ c.args.from.0 ∷ c.args.to.0 ∷ [] = search rules in
    let long : length c.fill-4.new.into ≡ 32 = first_of (search rules, grind (arith, common_steps)) in
    taken c.args.id.now c.args.from c.args.to (g.N.Link.Link.view c.args.link.now) (g.N.Link.Link.view c.fill.new.link) (g.N.Link.Link.view c.fill-2.new.link) (g.N.Link.Link.view c.fill-3.new.link) (g.N.Link.Link.view c.fill-4.new.link)
    c.fill.new.into c.fill-2.new.into c.fill-3.new.into c.fill-4.new.into
    (c.in_ok-fill.ensures {u = tt}).fills (c.in_ok-fill-2.ensures {u = tt}).fills (c.in_ok-fill-3.ensures {u = tt}).fills (c.in_ok-fill-4.ensures {u = tt}).fills
    version heard ends long

pub returns-then-ne-clause-refused : goal.returns-then-ne-clause-refused
returns-then-ne-clause-refused g c first =
    let one = (c.in_ok-fill.ensures {u = tt}).fills in
    let two : length c.fill.new.into ≡ 2 = first_of (search rules, grind (arith, common_steps)) in
    let other : c.fill.new.into ≢ 0x47 ∷ 2 ∷ [] = first_of (search rules, grind (arith, common_steps)) in
    other_version c.args.id.now c.args.from.0 c.args.to.0 (g.N.Link.Link.view c.args.link.now).coming c.fill.new.into (g.N.Link.Link.view c.fill.new.link).coming (one.whole first) two other

pub returns-then-ne-2-clause-refused : goal.returns-then-ne-2-clause-refused
returns-then-ne-2-clause-refused g c second =
    let one = (c.in_ok-fill.ensures {u = tt}).fills in
    let two = (c.in_ok-fill-2.ensures {u = tt}).fills in
    let version : c.fill.new.into ≡ 0x47 ∷ 2 ∷ [] = search rules in
    let long : length c.fill-2.new.into ≡ 32 = first_of (search rules, grind (arith, common_steps)) in
    let wide : length c.args.id.now ≡ 32 = first_of (search rules, grind (arith, common_steps)) in
    let other : c.fill-2.new.into ≢ c.args.id.now = first_of (search rules, grind (arith, common_steps)) in
    other_dealing c.args.id.now c.args.from.0 c.args.to.0 (g.N.Link.Link.view c.args.link.now).coming c.fill.new.into (g.N.Link.Link.view c.fill.new.link).coming
    c.fill-2.new.into (g.N.Link.Link.view c.fill-2.new.link).coming (one.whole (told _ _ two.still_told second)) (two.whole second) version long wide other

pub returns-then-ne-3-clause-refused : goal.returns-then-ne-3-clause-refused
returns-then-ne-3-clause-refused g c third =
    let one = (c.in_ok-fill.ensures {u = tt}).fills in
    let two = (c.in_ok-fill-2.ensures {u = tt}).fills in
    let three = (c.in_ok-fill-3.ensures {u = tt}).fills in
    let second = told _ _ three.still_told third in
    let version : c.fill.new.into ≡ 0x47 ∷ 2 ∷ [] = search rules in
    let heard : c.fill-2.new.into ≡ c.args.id.now = search rules in
    let wide : length c.args.id.now ≡ 32 = first_of (search rules, grind (arith, common_steps)) in
    let long : length c.fill-3.new.into ≡ 2 = first_of (search rules, grind (arith, common_steps)) in
    let other : c.fill-3.new.into ≢ c.args.from.0 ∷ c.args.to.0 ∷ [] = first_of (search rules, grind (arith, common_steps)) in
    other_hosts c.args.id.now c.args.from.0 c.args.to.0 (g.N.Link.Link.view c.args.link.now).coming c.fill.new.into (g.N.Link.Link.view c.fill.new.link).coming
    c.fill-2.new.into (g.N.Link.Link.view c.fill-2.new.link).coming c.fill-3.new.into (g.N.Link.Link.view c.fill-3.new.link).coming
    (one.whole (told _ _ two.still_told second)) (two.whole second) (three.whole third) version heard wide long other
