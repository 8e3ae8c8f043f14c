use Rattle.std.proofs.Common.{arith, refl}
use Rattle.std.proofs.lemmas.Int.{ints}
use Rattle.vd_space_tables.proofs.Loops.{total_item}
use Rattle.vd_space_tables.specs.declared.charges.Charge.{Charge}
use Rattle.vd_space_tables.proofs.start.free_sum.Goals as goal

pub loop-charge-preserved : goal.loop-charge-preserved
loop-charge-preserved c =
    let i = c.loop-charge.charge-index in
    let charges = c.args.charges.now in
    let charge = c.charge-item.result in
    let more = total_item (λ (x : Charge). x.free) charges charges i charge refl c.loop-charge-test.true c.charge-item.is in
    let so_far = c.loop-charge.invariant.sum in
    let low = c.loop-charge.invariant.within.low in
    let high = c.loop-charge.invariant.within.high in
    let here = c.free_of-sum.ensures.free in
    let here_low = c.free_of-sum.ensures.within.low in
    let here_high = c.free_of-sum.ensures.within.high in
    let few = c.requires.few in
    let end = c.loop-charge.auto.charge-index-end in
    record {
      sum = omega (arith, ints, more, so_far, low, high, here, here_low, here_high, few, end);
      within = record { low = omega (arith, ints, low, high, here_low, here_high, few, end); high = omega (arith, ints, low, high, here_low, here_high, few, end) };
    }
