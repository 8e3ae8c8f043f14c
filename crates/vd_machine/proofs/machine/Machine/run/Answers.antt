use Rattle.std.proofs.Common.{◌≡◌, true, rules, subst, ◌∙◌}
use Rattle.vd_execution.specs.Step.{need}
use Rattle.vd_machine.specs.Machines.{cursors_of}
use Rattle.vd_machine.specs.Kept.{state_of}
use Rattle.vd_machine.specs.Quietly.{Quietly}
use Rattle.vd_machine.proofs.Running.{met_alone, quietly_both, then_falls, then_one}
use Rattle.vd_machine.proofs.machine.Machine.run.Goals as goal

pub returns-then-not-is_quiet-clause-steps : goal.returns-then-not-is_quiet-clause-steps
returns-then-not-is_quiet-clause-steps c =
    let s = state_of c.args.self.now in
    let t = state_of c.loop-self.self in
    let u = state_of c.run_without_frames.new.self in
    let l = c.args.self.now.lists in
    quietly_both l s t u c.loop-self.invariant.so_far (subst (λ x. Quietly x t u) c.loop-self.invariant.lists c.run_without_frames.ensures.steps)

pub advance-requires : goal.advance-requires
advance-requires c =
    let m = c.run_without_frames.new.self in
    let yes : c.is_quiet.result ≡ true = search rules in
    met_alone m.lists (cursors_of m.taken) (need (state_of m)) (c.is_quiet.ensures.yes yes).wants

pub loop-self-smaller : goal.loop-self-smaller
loop-self-smaller c =
    let yes : c.is_quiet.result ≡ true = search rules in
    then_falls c.loop-self.self c.run_without_frames.new.self c.advance.new.self c.run_without_frames.ensures.steps (c.is_quiet.ensures.yes yes) c.advance.ensures.state

pub loop-self-preserved : goal.loop-self-preserved
loop-self-preserved c =
    let yes : c.is_quiet.result ≡ true = search rules in
    record {
      so_far = then_one c.args.self.now c.loop-self.self c.run_without_frames.new.self c.advance.new.self c.loop-self.invariant.lists c.run_without_frames.ensures.lists c.loop-self.invariant.so_far c.run_without_frames.ensures.steps
          (c.is_quiet.ensures.yes yes) c.advance.ensures.state;
      lists = c.advance.ensures.lists ∙ c.run_without_frames.ensures.lists ∙ c.loop-self.invariant.lists;
    }
