use Rattle.std.proofs.Common.{◌≡◌, drop, length, sym, ◌∙◌, rules, arith}
use Rattle.std.proofs.lemmas.Grind.{common_steps}
use Rattle.vd_resolve.proofs.KindLists.{none_left}
use Rattle.vd_resolve.proofs.arguments.other_argument.Goals as goal

pub returns-in-None : goal.returns-in-None
returns-in-None c =
    let none : length c.loop-place.left.now ≡ 0 = first_of (search rules, omega (arith, c.in-None.ensures.cases), grind (arith, common_steps)) in
    sym (none_left c.loop-place.place (drop c.loop-place.place c.args.kinds.now) c.loop-place.left.now none) ∙ c.loop-place.invariant
