use Rattle.std.proofs.Common.{◌≡◌, suc, ◌-◌, length, get_or, take, refl, subst, arith}
use Rattle.vd_machine.specs.declared.frames.Frame.TheVariants.{Loop}
use Rattle.vd_machine.proofs.Running.{last_is, last_set}
use Rattle.vd_machine.proofs.quiet.next_turn.Goals as goal

pub returns-else-turns-turn-clause-turns : goal.returns-else-turns-turn-clause-turns
returns-else-turns-turn-clause-turns c = λ yes.
    let below = c.args.below.now.items in
    let n = c.len-count.result - 1 in
    let some = c.if-count-eq0.false in
    let many : length below ≡ suc n = omega (arith, c.len-count.ensures, c.args.below.now.ok.0, some) in
    let frame = Loop c.in-Loop.register c.in-Loop.turn c.in-Loop.turns c.in-Loop.from c.in-Loop.mid c.in-Loop.to in
    let is : frame ≡ get_or below n frame = subst (λ f. f ≡ get_or below n f) c.in-Loop.is c.index.ensures in
    let more = c.if-turns-turn.false in
    record {
      turning = record { register = c.in-Loop.register; turn = c.in-Loop.turn; turns = c.in-Loop.turns; from = c.in-Loop.from; mid = c.in-Loop.mid; to = c.in-Loop.to };
      front = take n below;
      more = omega (arith, more);
      was = last_is below n frame many is;
      is = last_set below n _ many;
      top = refl;
      counter = c.write.ensures.value;
    }
