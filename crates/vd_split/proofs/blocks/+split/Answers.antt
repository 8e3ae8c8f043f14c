use Rattle.std.proofs.Common.{refl, ◌≡◌, ◌+◌, drop, subst, sym, ap, ◌∙◌, ◌∷◌}
use Rattle.vd_split.specs.Places.{block_onto}
use Rattle.vd_split.proofs.Onto.{block_step, block_end}
use Rattle.vd_split.proofs.Variants.{loop_done, guarded_done}
use Rattle.vd_split.proofs.Drops.{drop_next, drop_past}
use Rattle.vd_split.proofs.Steps.{rest_more}
use Rattle.vd_split.proofs.blocks.+split.Goals as goal

pub block-loop-stmt-preserved : goal.block-loop-stmt-preserved
block-loop-stmt-preserved g t c =
    let o = g.P.Protocols.offer c.args.protocols.now in
    let s = o.calls in
    let protos = c.args.protos.now in
    let goal = block_onto s protos c.args.body.now c.args.held.now c.args.turns.now c.args.to.now in
    let rest = drop (c.loop-stmt.stmt-index + 1) c.args.body.now in
    let here = drop_next c.args.body.now c.loop-stmt.stmt-index c.stmt-item.result c.loop-stmt-test.true ∙ ap (λ z. z ∷ rest) (sym c.stmt-item.is) in
    let done = c.in_ok-statement.ensures {u = tt} in
    record {
      exact =
          block_step s protos _ rest c.loop-stmt.held c.args.turns.now c.loop-stmt.to goal (c.statement.new.to, c.statement.new.held) done.exact
          (subst (λ z. block_onto s protos z c.loop-stmt.held c.args.turns.now c.loop-stmt.to ≡ goal) here c.loop-stmt.invariant.exact);
      rest =
          rest_more o protos c.args.body.now c.loop-stmt.stmt-index c.args.held.now c.args.to.now.next c.loop-stmt.held c.loop-stmt.to.next c.stmt-item.result rest c.requires c.loop-stmt.invariant.rest here
          c.statement.new.held c.statement.new.to.next refl done.emits;
    }

pub block-returns-clause-exact : goal.block-returns-clause-exact
block-returns-clause-exact g t c =
    let s = (g.P.Protocols.offer c.args.protocols.now).calls in
    let protos = c.args.protos.now in
    let goal = block_onto s protos c.args.body.now c.args.held.now c.args.turns.now c.args.to.now in
    block_end s protos c.loop-stmt.held c.args.turns.now c.loop-stmt.to goal
    (subst (λ z. block_onto s protos z c.loop-stmt.held c.args.turns.now c.loop-stmt.to ≡ goal) (drop_past c.args.body.now c.loop-stmt.stmt-index c.loop-stmt-test.false) c.loop-stmt.invariant.exact)

pub repeat-returns-clause-exact : goal.repeat-returns-clause-exact
repeat-returns-clause-exact g t c =
    loop_done (g.P.Protocols.offer c.args.protocols.now).calls c.args.protos.now c.args.count c.args.body.now c.args.held.now c.args.turns.now c.args.to.now c.in_ok-loops.loops c.open_loop.new.to c.block.new.to c.block.new.held c.close.new.to
    (c.in_ok-loops.ensures {u = tt}).exact (rw (c.as_slice.ensures, c.in_ok-registers.ensures {u = tt}, c.next.ensures) at (c.in_ok-block.ensures {u = tt}).exact) (rw c.as_slice-2.ensures at (c.in_ok-close.ensures {u = tt}))

pub statement-returns-in_ok-close-in-If-clause-exact : goal.statement-returns-in_ok-close-in-If-clause-exact
statement-returns-in_ok-close-in-If-clause-exact g t c =
    rw c.in-If.is
    (guarded_done (g.P.Protocols.offer c.args.protocols.now).calls c.args.protos.now c.in-If.guard c.in-If.then_block c.in-If.else_block c.args.held.now c.args.turns.now c.args.to.now c.in_ok-parts-in-If.parts c.open_guard.new.to c.block.new.to c.block.new.held
    c.turn_branch.new.to c.block-in-If.new.to c.block-in-If.new.held c.close.new.to
    (rw (c.as_slice-then_block.ensures, c.as_slice-else_block.ensures) at (c.in_ok-parts-in-If.ensures {u = tt}).exact) (rw c.as_slice-then_block.ensures at (c.in_ok-block-in-If.ensures {u = tt}).exact)
    (rw c.as_slice.ensures at (c.in_ok-turn_branch-in-If.ensures {u = tt})) (rw c.as_slice-else_block.ensures at (c.in_ok-block-in-If-2.ensures {u = tt}).exact)
    (rw c.as_slice-in-If.ensures at (c.in_ok-close-in-If.ensures {u = tt})) c.in-If.field-3)
