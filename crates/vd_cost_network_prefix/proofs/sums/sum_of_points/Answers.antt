use Rattle.std.proofs.Common.{arith}
use Rattle.std.proofs.lemmas.Int.{ints}
use Rattle.vd_space_prefix.proofs.Front.{total_range_more}
use Rattle.vd_cost_network_prefix.specs.States.{as_states, point_part}
use Rattle.vd_cost_network_prefix.proofs.sums.sum_of_points.Goals as goal

pub loop-point-preserved : goal.loop-point-preserved
loop-point-preserved c =
    let more = total_range_more (point_part c.args.tables.now (as_states c.args.states.now)) c.loop-point.point in
    let so_far = c.loop-point.invariant.sum in
    let low = c.loop-point.invariant.within.low in
    let high = c.loop-point.invariant.within.high in
    let here = c.part_of_point.ensures.part in
    let here_low = c.part_of_point.ensures.within.low in
    let here_high = c.part_of_point.ensures.within.high in
    record {
      sum = omega (arith, ints, more, so_far, low, high, here, here_low, here_high);
      within = record { low = omega (arith, ints, low, high, here_low, here_high); high = omega (arith, ints, low, high, here_low, here_high) };
    }
