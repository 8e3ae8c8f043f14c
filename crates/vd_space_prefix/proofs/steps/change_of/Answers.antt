use Rattle.std.proofs.Common.{length, refl, sym, arith}
use Rattle.std.proofs.lemmas.Bool.{ltb-true}
use Rattle.std.proofs.lemmas.Int.{ints}
use Rattle.std.proofs.lemmas.Option.{slice_get_read}
use Rattle.vd_space_prefix.proofs.Changes.{changed, unchanged}
use Rattle.vd_space_prefix.proofs.steps.change_of.Goals as goal

pub returns-in-Some-clause-change : goal.returns-in-Some-clause-change
returns-in-Some-clause-change c =
    let found = c.in-Some.ensures.lookup in
    let arcs = c.args.arcs.now in
    let at = slice_get_read arcs (length arcs) c.args.number c.in-Some.arc.now refl (ltb-true c.args.number (length arcs) (sym found.0)) found.1 in
    let is = changed c.args.prices.now arcs c.args.before.now c.args.after.now c.args.number c.in-Some.arc.now at in
    let first = c.cost_under.ensures.cost in
    let second = c.cost_under-in-Some.ensures.cost in
    let first_low = c.cost_under.ensures.within.low in
    let first_high = c.cost_under.ensures.within.high in
    let second_low = c.cost_under-in-Some.ensures.within.low in
    let second_high = c.cost_under-in-Some.ensures.within.high in
    omega (arith, ints, is, first, second, first_low, first_high, second_low, second_high)

pub returns-in-None-clause-change : goal.returns-in-None-clause-change
returns-in-None-clause-change c = unchanged c.args.prices.now c.args.arcs.now c.args.before.now c.args.after.now c.args.number c.in-None.ensures.lookup.3
