use Rattle.std.proofs.Common.{arith, [], length, ◌≤◌, subst}
use Rattle.std.proofs.lemmas.Int.{ints}
use Rattle.vd_space.specs.Growth.{guard_sum}
use Rattle.vd_space_tables.proofs.Loops.{total_item}
use Rattle.vd_space_tables.proofs.start.told_sum.Goals as goal

pub loop-number-preserved : goal.loop-number-preserved
loop-number-preserved c =
    let problem = c.args.problem.now in
    let i = c.loop-number.number in
    let more = total_item (guard_sum problem []) problem.guards c.as_slice-guards.result.now i c.index-guards-number.result c.as_slice-guards.ensures c.loop-number-test.true c.index-guards-number.is in
    let so_far = c.loop-number.invariant.sum in
    let low = c.loop-number.invariant.within.low in
    let high = c.loop-number.invariant.within.high in
    let here = c.told_cost-sum.ensures.cost in
    let here_low = c.told_cost-sum.ensures.within.low in
    let here_high = c.told_cost-sum.ensures.within.high in
    let end = subst (λ xs. i ≤ length xs) c.as_slice-guards.ensures c.loop-number.auto.number-end in
    let count = c.requires.limits.count in
    record {
      sum = omega (arith, ints, more, so_far, low, high, here, here_low, here_high, count, end);
      within = record { low = omega (arith, ints, low, high, here_low, here_high, count, end); high = omega (arith, ints, low, high, here_low, here_high, count, end) };
    }
