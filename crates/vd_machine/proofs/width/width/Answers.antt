use Rattle.std.proofs.Common.{arith}
use Rattle.vd_machine.proofs.Widths.{one_more}
use Rattle.vd_machine.proofs.width.width.Goals as goal

pub loop-i-preserved : goal.loop-i-preserved
loop-i-preserved c =
    let more = c.loop-i-test.true in
    let w = c.larger-width.ensures in
    let few = w.bound 2097152 c.loop-i.invariant.few c.instruction_width.ensures.few in
    record {
      within = omega (arith, more);
      few = few;
      fits = one_more c.args.code.now c.loop-i.i c.loop-i.width c.instruction_width.result c.larger-width.result c.index-code-i.result more c.index-code-i.is c.instruction_width.ensures.fits w.first w.second c.loop-i.invariant.fits;
    }
