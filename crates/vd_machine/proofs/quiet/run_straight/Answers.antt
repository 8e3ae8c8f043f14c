use Rattle.std.proofs.Common.{◌≡◌, ◌+◌, false, true, length, refl, sym, subst, arith, rules}
use Rattle.vd_machine.specs.declared.frames.Frame.TheVariants.{Run}
use Rattle.vd_machine.specs.Kept.{FrameFits}
use Rattle.vd_machine.specs.Quietly.{GoesOn, kept_as}
use Rattle.vd_machine.proofs.Spans.{run_first}
use Rattle.vd_machine.proofs.Running.{acts_on, goes_both, straight_fits}
use Rattle.vd_machine.proofs.quiet.run_straight.Goals as goal

pub act_at-requires-clause-within : goal.act_at-requires-clause-within
act_at-requires-clause-within c =
    run_first (length c.loop-at.registers.items) c.args.code.now.items c.loop-at.at c.args.to c.index.result.now c.loop-at.invariant.fits c.loop-at-test.true c.index.ensures

pub returns-then-not-act_at-clause-goes : goal.returns-then-not-act_at-clause-goes
returns-then-not-act_at-clause-goes c = λ below fits.
    let code = c.args.code.now.items in
    let lists = c.args.lists.now in
    let no : c.act_at.result ≡ false = search rules in
    let start = kept_as code (Run c.args.from c.args.to) below c.args.registers.now.items lists c.args.taken.now in
    subst (λ r. GoesOn start (kept_as code (Run c.loop-at.at c.args.to) below r lists c.act_at.new.taken)) (sym (c.act_at.ensures.registers no))
    (subst (λ t. GoesOn start (kept_as code (Run c.loop-at.at c.args.to) below c.loop-at.registers.items lists t)) (sym (c.act_at.ensures.taken no)) (c.loop-at.invariant.goes below fits))

pub loop-at-preserved : goal.loop-at-preserved
loop-at-preserved c =
    let code = c.args.code.now.items in
    let lists = c.args.lists.now in
    let more = c.loop-at-test.true in
    let yes : c.act_at.result ≡ true = search rules in
    let acts = c.act_at.ensures.done yes in
    record {
      high = omega (arith, more);
      fits = subst (λ r. FrameFits r code (Run (c.loop-at.at + 1) c.args.to)) (sym c.act_at.ensures.len)
          (straight_fits (length c.loop-at.registers.items) code c.loop-at.at c.args.to c.index.result.now acts.what c.loop-at.invariant.fits more c.index.ensures acts.is);
      same = c.act_at.ensures.same;
      goes = λ below fits.
          let so_far = c.loop-at.invariant.goes below fits in
          goes_both _ (kept_as code (Run c.loop-at.at c.args.to) below c.loop-at.registers.items lists c.loop-at.taken) _ refl so_far
          (acts_on code c.loop-at.at c.args.to below c.loop-at.registers.items c.act_at.new.registers.items lists c.loop-at.taken c.act_at.new.taken c.index.result.now so_far.fits more c.index.ensures acts c.act_at.ensures.len c.act_at.ensures.same);
    }
