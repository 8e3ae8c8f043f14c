use Rattle.std.proofs.Common.{ℕ, ◌+◌, ◌++◌, ◌∷◌, [], List, true, sym, ap₂, ◌∙◌, subst}
use Rattle.std.proofs.lemmas.Result.{err_from_is_err_and}
use Rattle.vd_base.specs.declared.ids.SlotId.{SlotId}
use Rattle.vd_core.specs.declared.normal.Stmt.{Stmt, If}
use Rattle.vd_rewrite.specs.Rewriting.{Made, run_all, guard_of, emptied, kept_let}
use Rattle.vd_rewrite.proofs.Front.{kept_makes, one_more, stops_in_list, stops_first, stops_block, stops_then}
use Rattle.vd_rewrite.specs.Stops.{IsTooLarge}
use Rattle.vd_rewrite.specs.Rewriting.{marked}
use Rattle.vd_mux.specs.Walks.{as_rewritings}
use Rattle.vd_mux.proofs.walk.Walk.+walk.Goals as goal

pub rewrite_all-returns-in_err-rewrite-clause-stop : goal.rewrite_all-returns-in_err-rewrite-clause-stop
rewrite_all-returns-in_err-rewrite-clause-stop t c =
    let p = err_from_is_err_and c.from_residual.result c.from_residual.ensures.1 in
    rw (p.1, p.2)
    (λ e. stops_in_list (marked c.args.self.now.hidden.now) (kept_let c.args.self.now.slots.now) 0 (kept_makes c.args.self.now.slots.now) c.args.self.now.slots.now c.args.guards.now c.args.block c.args.body.now c.loop-stmt.stmt-index c.stmt-item.result c.loop-stmt.made c.args.made.now
    c.loop-stmt-test.true c.stmt-item.is c.loop-stmt.invariant ((c.in_err-rewrite.ensures {u = tt}).stop e))

pub rewrite_all-loop-stmt-preserved : goal.rewrite_all-loop-stmt-preserved
rewrite_all-loop-stmt-preserved t c =
    let more = one_more (marked c.args.self.now.hidden.now) (kept_let c.args.self.now.slots.now) 0 (kept_makes c.args.self.now.slots.now) c.args.self.now.slots.now c.args.guards.now c.args.block c.args.body.now c.loop-stmt.stmt-index c.stmt-item.result c.loop-stmt.made c.loop-stmt-test.true c.stmt-item.is in
    rw ((c.in_ok-rewrite.ensures {u = tt}).made) (more ∙ c.loop-stmt.invariant)

pub rewrite-returns-in_err-branch-in-If-clause-stop : goal.rewrite-returns-in_err-branch-in-If-clause-stop
rewrite-returns-in_err-branch-in-If-clause-stop t c =
    let p = err_from_is_err_and c.from_residual.result c.from_residual.ensures.1 in
    let a = c.as_slice-then_block.result.now in
    let b = c.as_slice-else_block.result.now in
    let is = c.in-If.is ∙ ap₂ (λ (a b : List Stmt). If c.in-If.guard a b c.in-If.offset) (sym c.as_slice-then_block.ensures) (sym c.as_slice-else_block.ensures) in
    rw (p.1, p.2)
    (λ e. stops_first (marked c.args.self.now.hidden.now) (kept_let c.args.self.now.slots.now) 0 (kept_makes c.args.self.now.slots.now) c.args.self.now.slots.now c.args.guards.now c.args.block c.args.made.now c.in-If.guard a b c.in-If.offset c.args.stmt.now is (sym c.is_flat.ensures ∙ c.if-is_flat.true)
    (subst (λ (place : SlotId). IsTooLarge (run_all (as_rewritings c.args.self.now a) (c.args.guards.now ++ guard_of true place c.in-If.offset ∷ []) c.args.block c.args.made.now)) c.moved-place.ensures ((c.in_err-branch-in-If.ensures {u = tt}).stop e)))

pub rewrite-returns-in_err-number-in-If-clause-stop : goal.rewrite-returns-in_err-number-in-If-clause-stop
rewrite-returns-in_err-number-in-If-clause-stop t c =
    let p = err_from_is_err_and c.from_residual-in_err-number-in-If.result c.from_residual-in_err-number-in-If.ensures.1 in
    let a = c.as_slice-then_block.result.now in
    let b = c.as_slice-else_block.result.now in
    let is = c.in-If.is ∙ ap₂ (λ (a b : List Stmt). If c.in-If.guard a b c.in-If.offset) (sym c.as_slice-then_block.ensures) (sym c.as_slice-else_block.ensures) in
    rw (p.1, p.2)
    (λ e. stops_block (marked c.args.self.now.hidden.now) (kept_let c.args.self.now.slots.now) 0 (kept_makes c.args.self.now.slots.now) c.args.self.now.slots.now c.args.guards.now c.args.block c.args.made.now c.in-If.guard a b c.in-If.offset c.args.stmt.now is (sym c.is_flat.ensures ∙ c.if-is_flat.false)
    ((c.in_err-number-in-If.ensures {u = tt}).stop e))

pub rewrite-returns-in_err-then_block-in-If-clause-stop : goal.rewrite-returns-in_err-then_block-in-If-clause-stop
rewrite-returns-in_err-then_block-in-If-clause-stop t c =
    let p = err_from_is_err_and c.from_residual-in_err-then_block-in-If.result c.from_residual-in_err-then_block-in-If.ensures.1 in
    let a = c.as_slice-then_block.result.now in
    let b = c.as_slice-else_block.result.now in
    let begun = c.in_ok-number-in-If.ensures {u = tt} in
    let is = c.in-If.is ∙ ap₂ (λ (a b : List Stmt). If c.in-If.guard a b c.in-If.offset) (sym c.as_slice-then_block.ensures) (sym c.as_slice-else_block.ensures) in
    rw (p.1, p.2)
    (λ e. stops_then (marked c.args.self.now.hidden.now) (kept_let c.args.self.now.slots.now) 0 (kept_makes c.args.self.now.slots.now) c.args.self.now.slots.now c.args.guards.now c.args.block c.args.made.now c.in-If.guard a b c.in-If.offset c.args.stmt.now is (sym c.is_flat.ensures ∙ c.if-is_flat.false)
    (subst (λ (n : ℕ). IsTooLarge (run_all (as_rewritings c.args.self.now a) [] n (emptied (record { next = c.args.made.now.next; slots = c.args.made.now.slots; table = c.args.made.now.table; blocks = c.args.made.now.blocks + 1; body = c.args.made.now.body })))) begun.number
    (subst (λ (m : Made). IsTooLarge (run_all (as_rewritings c.args.self.now a) [] c.in_ok-number-in-If.number (emptied m))) begun.more ((c.in_err-then_block-in-If.ensures {u = tt}).stop e))))
