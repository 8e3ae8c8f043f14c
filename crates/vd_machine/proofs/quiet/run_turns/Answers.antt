use Rattle.std.proofs.Common.{◌≡◌, true, false, length, sym, subst, rules, ◌∙◌, refl}
use Rattle.vd_machine.specs.declared.frames.Frame.TheVariants.{Run}
use Rattle.vd_machine.specs.Quietly.{GoesOn, kept_as}
use Rattle.vd_machine.proofs.Running.{counters, goes_both, straight_on, turning_falls, turns_on}
use Rattle.vd_machine.proofs.quiet.run_turns.Goals as goal

pub returns-then-at-to-clause-goes : goal.returns-then-at-to-clause-goes
returns-then-at-to-clause-goes c =
    straight_on (kept_as c.args.code.now.items c.args.top.now c.args.below.now.items c.args.registers.now.items c.args.lists.now c.args.taken.now) c.args.code.now.items c.loop-top.top c.in-Run.from c.in-Run.to c.run_straight-at.result c.loop-top.below.items c.loop-top.registers.items c.run_straight-at.new.registers.items c.loop-top.taken c.run_straight-at.new.taken
    c.loop-top.invariant.goes c.in-Run.is (c.run_straight-at.ensures.goes c.loop-top.below.items)

pub next_turn-requires : goal.next_turn-requires
next_turn-requires c = counters (length c.run_straight-at.new.registers.items) c.args.code.now.items c.loop-top.below.items (straight_on (kept_as c.args.code.now.items c.args.top.now c.args.below.now.items c.args.registers.now.items c.args.lists.now c.args.taken.now) c.args.code.now.items c.loop-top.top c.in-Run.from c.in-Run.to c.run_straight-at.result c.loop-top.below.items c.loop-top.registers.items c.run_straight-at.new.registers.items c.loop-top.taken c.run_straight-at.new.taken
    c.loop-top.invariant.goes c.in-Run.is (c.run_straight-at.ensures.goes c.loop-top.below.items)).fits.below

pub returns-then-not-next_turn-clause-goes : goal.returns-then-not-next_turn-clause-goes
returns-then-not-next_turn-clause-goes c =
    let code = c.args.code.now.items in
    let lists = c.args.lists.now in
    let taken = c.run_straight-at.new.taken in
    let no : c.next_turn.result ≡ false = search rules in
    subst (λ r. GoesOn (kept_as c.args.code.now.items c.args.top.now c.args.below.now.items c.args.registers.now.items c.args.lists.now c.args.taken.now) (kept_as code c.next_turn.new.top c.next_turn.new.below.items r lists taken)) (sym (c.next_turn.ensures.registers no))
    (subst (λ b. GoesOn (kept_as c.args.code.now.items c.args.top.now c.args.below.now.items c.args.registers.now.items c.args.lists.now c.args.taken.now) (kept_as code c.next_turn.new.top b c.run_straight-at.new.registers.items lists taken)) (sym (c.next_turn.ensures.below no))
    (subst (λ t. GoesOn (kept_as c.args.code.now.items c.args.top.now c.args.below.now.items c.args.registers.now.items c.args.lists.now c.args.taken.now) (kept_as code t c.loop-top.below.items c.run_straight-at.new.registers.items lists taken)) (sym (c.next_turn.ensures.top no)) (straight_on (kept_as c.args.code.now.items c.args.top.now c.args.below.now.items c.args.registers.now.items c.args.lists.now c.args.taken.now) c.args.code.now.items c.loop-top.top c.in-Run.from c.in-Run.to c.run_straight-at.result c.loop-top.below.items c.loop-top.registers.items c.run_straight-at.new.registers.items c.loop-top.taken c.run_straight-at.new.taken
    c.loop-top.invariant.goes c.in-Run.is (c.run_straight-at.ensures.goes c.loop-top.below.items))))

pub loop-top-smaller : goal.loop-top-smaller
loop-top-smaller c =
    let yes : c.next_turn.result ≡ true = search rules in
    let begun = subst (λ f. GoesOn (kept_as c.args.code.now.items c.args.top.now c.args.below.now.items c.args.registers.now.items c.args.lists.now c.args.taken.now) (kept_as c.args.code.now.items f c.loop-top.below.items c.loop-top.registers.items c.args.lists.now c.loop-top.taken)) c.in-Run.is c.loop-top.invariant.goes in
    turning_falls c.args.code.now.items c.loop-top.top c.in-Run.from c.in-Run.to c.run_straight-at.result c.next_turn.new.top c.loop-top.below.items c.next_turn.new.below.items
    c.loop-top.registers.items c.run_straight-at.new.registers.items c.next_turn.new.registers.items c.args.lists.now c.loop-top.taken c.run_straight-at.new.taken
    c.in-Run.is (c.run_straight-at.ensures.goes c.loop-top.below.items begun.fits) c.if-at-to.false (c.next_turn.ensures.turns yes)

pub loop-top-preserved : goal.loop-top-preserved
loop-top-preserved c =
    let code = c.args.code.now.items in
    let lists = c.args.lists.now in
    let taken = c.run_straight-at.new.taken in
    let yes : c.next_turn.result ≡ true = search rules in
    let so_far = straight_on (kept_as c.args.code.now.items c.args.top.now c.args.below.now.items c.args.registers.now.items c.args.lists.now c.args.taken.now) c.args.code.now.items c.loop-top.top c.in-Run.from c.in-Run.to c.run_straight-at.result c.loop-top.below.items c.loop-top.registers.items c.run_straight-at.new.registers.items c.loop-top.taken c.run_straight-at.new.taken
    c.loop-top.invariant.goes c.in-Run.is (c.run_straight-at.ensures.goes c.loop-top.below.items) in
    record {
      goes = goes_both (kept_as c.args.code.now.items c.args.top.now c.args.below.now.items c.args.registers.now.items c.args.lists.now c.args.taken.now) (kept_as code (Run c.run_straight-at.result c.in-Run.to) c.loop-top.below.items c.run_straight-at.new.registers.items lists taken) _ refl so_far
          (turns_on code (Run c.run_straight-at.result c.in-Run.to) c.next_turn.new.top c.loop-top.below.items c.next_turn.new.below.items c.run_straight-at.new.registers.items c.next_turn.new.registers.items lists taken
          so_far.fits c.if-at-to.false (c.next_turn.ensures.turns yes) c.next_turn.ensures.len);
      capacity = c.next_turn.ensures.capacity ∙ c.loop-top.invariant.capacity;
    }
