use Rattle.std.proofs.Common.{◌≡◌, ◌≤◌, rules, arith, length, slice_index}
use Rattle.std.proofs.lemmas.Grind.{common_steps}
use Rattle.vd_channel_crypto.specs.Keys.{direction}
use Rattle.vd_channel_link.proofs.Refused.{other_code, told}
use Rattle.vd_channel_link.proofs.taking.take_covered.Goals as goal

pub returns-in-None-clause-refused : goal.returns-in-None-clause-refused
returns-in-None-clause-refused g c third =
    let head = c.fill.new.into in
    let covered = c.fill-2.new.into in
    let code = c.fill-3.new.into in
    let one = (c.in_ok-fill.ensures {u = tt}).fills in
    let two = (c.in_ok-fill-2.ensures {u = tt}).fills in
    let three = (c.in_ok-fill-3.ensures {u = tt}).fills in
    let second = told _ _ three.still_told third in
    let first = told _ _ two.still_told second in
    let long : length head ≡ 2 = first_of (search rules, grind (arith, common_steps)) in
    let few : slice_index head 1 ≤ 128 = first_of (search rules, grind (arith, common_steps)) in
    let counted : length covered ≡ slice_index head 1 = first_of (search rules, grind (arith, common_steps)) in
    let whole : length code ≡ 32 = first_of (search rules, grind (arith, common_steps)) in
    other_code (direction c.args.keys.now) c.args.number (g.L.Link.view c.args.link.now).coming head covered code
    (g.L.Link.view c.fill.new.link).coming (g.L.Link.view c.fill-2.new.link).coming (g.L.Link.view c.fill-3.new.link).coming
    (one.whole first) (two.whole second) (three.whole third) long c.if-tag-ne88.false few counted whole (c.in-None.ensures {u = tt})
