use Rattle.std.proofs.Common.{arith}
use Rattle.std.proofs.lemmas.Int.{ints}
use Rattle.vd_space_prefix.proofs.Front.{total_range_more}
use Rattle.vd_cost_network_prefix.specs.States.{as_states, arc_part}
use Rattle.vd_cost_network_prefix.proofs.sums.sum_of_arcs.Goals as goal

pub loop-number-preserved : goal.loop-number-preserved
loop-number-preserved c =
    let more = total_range_more (arc_part c.args.tables.now (as_states c.args.states.now)) c.loop-number.number in
    let so_far = c.loop-number.invariant.sum in
    let low = c.loop-number.invariant.within.low in
    let high = c.loop-number.invariant.within.high in
    let here = c.part_of_arc.ensures.part in
    let here_low = c.part_of_arc.ensures.within.low in
    let here_high = c.part_of_arc.ensures.within.high in
    record {
      sum = omega (arith, ints, more, so_far, low, high, here, here_low, here_high);
      within = record { low = omega (arith, ints, low, high, here_low, here_high); high = omega (arith, ints, low, high, here_low, here_high) };
    }
