use Rattle.std.proofs.Common.{List, ap, ap₂, ◌∙◌}
use Rattle.vd_excuse_walk.specs.declared.equivocation_laws.step.Step.{Step}
use Rattle.vd_excuse_walk.specs.declared.walker.Walker.{Walker}
use Rattle.vd_excuse_walk.specs.Data.{all_both, both_begun, both_turn, data_walks}
use Rattle.vd_excuse_walk.proofs.Steps.{one_turn}
use Rattle.vd_excuse_walk.proofs.walker.Walker.+walk.Goals as goal

pub step-loop-turn-preserved : goal.step-loop-turn-preserved
step-loop-turn-preserved t c =
    one_turn (both_turn c.in-Loop.parts (data_walks c.in-Loop.body)) c.loop-turn.turn c.args.self.now c.loop-turn.self c.steps-in-loop-turn.new.self c.loop-turn.invariant
    (c.in_ok-steps-in-Loop.ensures
    ∙ ap₂ (λ (b : List Step) (d : Walker). all_both (data_walks b) d) c.as_slice-in-loop-turn.ensures (c.in_ok-begin-in-Loop.ensures ∙ ap (λ ps. both_begun ps c.loop-turn.turn c.loop-turn.self) c.as_slice.ensures))
