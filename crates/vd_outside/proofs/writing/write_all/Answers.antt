use Rattle.std.proofs.Common.{arith}
use Rattle.vd_outside.proofs.Pieces.{taken_step, within}
use Rattle.vd_outside.proofs.writing.write_all.Goals as goal

pub loop-done-preserved : goal.loop-done-preserved
loop-done-preserved g c =
    let w = c.in_ok-done.ensures {u = tt} in
    let i = c.loop-done.invariant in
    record {
      within = within _ c.loop-done.done _ i.within w.within;
      later = omega arith;
      was_told = λ t. i.was_told (w.was_told t);
      taken = λ t. taken_step _ _ _ c.args.bytes.now c.loop-done.done c.in_ok-done.field-0 (i.taken (w.was_told t)) (w.taken t);
    }
