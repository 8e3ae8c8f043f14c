use Rattle.std.proofs.Common.{arith}
use Rattle.std.proofs.lemmas.Int.{ints}
use Rattle.vd_space_prefix.specs.Guards.{joined_if}
use Rattle.vd_space_prefix.proofs.Changes.{total_range_more}
use Rattle.vd_space_prefix.proofs.guards.joining_cost.Goals as goal

pub loop-host-preserved : goal.loop-host-preserved
loop-host-preserved c =
    let more = total_range_more (joined_if c.args.problem.now c.args.prefix.now c.args.guard.now c.args.telling.now c.args.choice) c.loop-host.host in
    let so_far = c.loop-host.invariant.sum in
    let low = c.loop-host.invariant.within.low in
    let high = c.loop-host.invariant.within.high in
    let here = c.cost_if_brought-sum.ensures.cost in
    let here_low = c.cost_if_brought-sum.ensures.within.low in
    let here_high = c.cost_if_brought-sum.ensures.within.high in
    record {
      sum = omega (arith, ints, more, so_far, low, high, here, here_low, here_high);
      within = record { low = omega (arith, ints, low, high, here_low, here_high); high = omega (arith, ints, low, high, here_low, here_high) };
    }
