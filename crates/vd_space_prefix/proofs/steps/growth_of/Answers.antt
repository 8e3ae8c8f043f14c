use Rattle.std.proofs.Common.{arith, get_or}
use Rattle.std.proofs.lemmas.Int.{ints}
use Rattle.std.proofs.lemmas.List.{take_more}
use Rattle.vd_space_prefix.specs.Steps.{change}
use Rattle.vd_space_prefix.proofs.Changes.{total_more}
use Rattle.vd_space_prefix.proofs.steps.growth_of.Goals as goal

pub loop-number-preserved : goal.loop-number-preserved
loop-number-preserved c =
    let i = c.loop-number.number-index in
    let numbers = c.args.numbers.now in
    let more = total_more (change c.args.prices.now c.args.arcs.now c.args.before.now c.args.after.now) numbers i (get_or numbers i 0) (take_more numbers i 0 (omega arith)) in
    let so_far = c.loop-number.invariant.sum in
    let low = c.loop-number.invariant.within.low in
    let high = c.loop-number.invariant.within.high in
    let here = c.change_of-sum.ensures.change in
    let here_low = c.change_of-sum.ensures.within.low in
    let here_high = c.change_of-sum.ensures.within.high in
    let few = c.requires.few in
    record {
      sum = omega (arith, ints, more, so_far, low, high, here, here_low, here_high, few);
      within = record { low = omega (arith, ints, low, high, here_low, here_high, few); high = omega (arith, ints, low, high, here_low, here_high, few) };
    }
