use Rattle.std.proofs.Common.{List, ap, ap₂, sym, ◌∙◌}
use Rattle.vd_excuse_walk.specs.declared.equivocation_laws.step.Step.{Step}
use Rattle.vd_excuse_runs.specs.declared.side.Side.{Side}
use Rattle.vd_excuse_runs.specs.Runs.{begun}
use Rattle.vd_excuse_walk.specs.Data.{all_alone, data_walks, turn_alone}
use Rattle.vd_excuse_walk.proofs.Steps.{on_ok, one_turn, other_alone, first_alone}
use Rattle.vd_excuse_walk.proofs.alone.+alone.Goals as goal

pub step_alone-returns-then-is_other : goal.step_alone-returns-then-is_other
step_alone-returns-then-is_other t c =
    on_ok c.steps_alone.result
    (λ same. other_alone c.args.step.now c.in-Branch.parts c.in-Branch.first c.in-Branch.other c.as_slice-parts.result.now c.as_slice-first.result.now c.as_slice-other.result.now c.args.run.now c.steps_alone.new.run c.in-Branch.is
    c.as_slice-parts.ensures c.as_slice-first.ensures c.as_slice-other.ensures (sym c.is_other.ensures ∙ c.if-is_other.true) same)
    c.steps_alone.ensures

pub step_alone-returns-else-is_other : goal.step_alone-returns-else-is_other
step_alone-returns-else-is_other t c =
    on_ok c.steps_alone-else-is_other.result
    (λ same. first_alone c.args.step.now c.in-Branch.parts c.in-Branch.first c.in-Branch.other c.as_slice-parts.result.now c.as_slice-first.result.now c.as_slice-other.result.now c.args.run.now c.steps_alone-else-is_other.new.run c.in-Branch.is
    c.as_slice-parts.ensures c.as_slice-first.ensures c.as_slice-other.ensures (sym c.is_other.ensures ∙ c.if-is_other.false) same)
    c.steps_alone-else-is_other.ensures

pub step_alone-loop-turn-preserved : goal.step_alone-loop-turn-preserved
step_alone-loop-turn-preserved t c =
    one_turn (turn_alone c.in-Loop.parts (data_walks c.in-Loop.body)) c.loop-turn.turn c.args.run.now c.loop-turn.run c.steps_alone-in-loop-turn.new.run c.loop-turn.invariant
    (c.in_ok-steps_alone-in-Loop.ensures
    ∙ ap₂ (λ (b : List Step) (r : List Side). all_alone (data_walks b) r) c.as_slice-in-loop-turn.ensures (c.in_ok-begin-in-Loop.ensures ∙ ap (λ ps. begun ps c.loop-turn.turn c.loop-turn.run) c.as_slice.ensures))
