use Rattle.std.proofs.Common.{arith}
use Rattle.std.proofs.lemmas.Int.{ints}
use Rattle.vd_space_prefix.specs.declared.transfers.Arc.{Arc}
use Rattle.vd_space_tables.proofs.Loops.{total_next}
use Rattle.vd_space_tables.proofs.start.both_sum.Goals as goal

pub loop-number-preserved : goal.loop-number-preserved
loop-number-preserved c =
    let more = total_next (λ (arc : Arc). arc.both) c.args.arcs.now c.loop-number.number c.loop-number-test.true in
    let so_far = c.loop-number.invariant.sum in
    let low = c.loop-number.invariant.within.low in
    let high = c.loop-number.invariant.within.high in
    let here = c.both_of-sum.ensures.both in
    let here_low = c.both_of-sum.ensures.within.low in
    let here_high = c.both_of-sum.ensures.within.high in
    let few = c.requires.few in
    let end = c.loop-number.auto.number-end in
    record {
      sum = omega (arith, ints, more, so_far, low, high, here, here_low, here_high, few, end);
      within = record { low = omega (arith, ints, low, high, here_low, here_high, few, end); high = omega (arith, ints, low, high, here_low, here_high, few, end) };
    }
