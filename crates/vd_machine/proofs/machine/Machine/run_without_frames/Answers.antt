use Rattle.std.proofs.Common.{refl, subst, arith}
use Rattle.vd_machine.specs.declared.machine.Machine.TheInside.{Inside}
use Rattle.vd_machine.specs.Kept.{Kept, state_of}
use Rattle.vd_machine.specs.Quietly.{Quietly, kept_as}
use Rattle.vd_machine.proofs.Running.{fitting, goes_both, goes_settled}
use Rattle.vd_machine.proofs.machine.Machine.run_without_frames.Goals as goal

abbrev kept : Inside → Kept
kept m = record { code = m.code.items; top = m.top; below = m.below.items; registers = m.registers.items; lists = m.lists; taken = m.taken }

pub run_turns-requires : goal.run_turns-requires
run_turns-requires c = fitting (kept c.self.inside) c.self.invariant.0

pub invariant_of-self : goal.invariant_of-self
invariant_of-self c =
    let m = kept c.self.inside in
    let go = c.run_turns.ensures.goes in
    let last = goes_settled m.code c.run_turns.new.top c.settle.new.top c.run_turns.new.below.items c.settle.new.below.items c.run_turns.new.registers.items m.lists c.run_turns.new.taken go.fits c.settle.ensures.same in
    let many = c.self.invariant.2 in let kept_1 = c.run_turns.ensures.capacity in let kept_2 = c.settle.ensures.capacity in (
      record { top = last.fits.top; below = last.fits.below; settled = c.settle.ensures.settled; peers = last.fits.peers },
      last.room 512 (go.room 512 c.self.invariant.1),
      omega (arith, many, kept_1, kept_2),
      c.self.invariant.3,
    )

pub returns-clause-steps : goal.returns-clause-steps
returns-clause-steps c =
    let m = kept c.self.inside in
    let go = c.run_turns.ensures.goes in
    let last = goes_settled m.code c.run_turns.new.top c.settle.new.top c.run_turns.new.below.items c.settle.new.below.items c.run_turns.new.registers.items m.lists c.run_turns.new.taken go.fits c.settle.ensures.same in
    subst (λ (v : Kept). Quietly v.lists (state_of v) (state_of (kept_as m.code c.settle.new.top c.settle.new.below.items c.run_turns.new.registers.items m.lists c.run_turns.new.taken))) c.self.view_is
    (goes_both m _ _ refl go last).steps
