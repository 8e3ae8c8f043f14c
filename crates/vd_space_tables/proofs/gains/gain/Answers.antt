use Rattle.std.proofs.Common.{arith, refl}
use Rattle.std.proofs.lemmas.Int.{ints}
use Rattle.vd_space_tables.proofs.Loops.{total_item}
use Rattle.vd_space_tables.specs.Gains.{gain_at_slot}
use Rattle.vd_space_tables.proofs.gains.gain.Goals as goal

pub loop-output-preserved : goal.loop-output-preserved
loop-output-preserved c =
    let i = c.loop-output.output-index in
    let outputs = c.args.outputs.now in
    let output = c.output-item.result in
    let more = total_item (gain_at_slot c.args.charge.now.slot c.args.place) outputs outputs i output refl c.loop-output-test.true c.output-item.is in
    let so_far = c.loop-output.invariant.sum in
    let low = c.loop-output.invariant.within.low in
    let high = c.loop-output.invariant.within.high in
    let here = c.gain_at_slot-sum.ensures.gain in
    let here_low = c.gain_at_slot-sum.ensures.within.low in
    let here_high = c.gain_at_slot-sum.ensures.within.high in
    let few = c.requires.few in
    let end = c.loop-output.auto.output-index-end in
    record {
      sum = omega (arith, ints, more, so_far, low, high, here, here_low, here_high, few, end);
      within = record { low = omega (arith, ints, low, high, here_low, here_high, few, end); high = omega (arith, ints, low, high, here_low, here_high, few, end) };
    }
