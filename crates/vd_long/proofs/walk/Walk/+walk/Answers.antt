use Rattle.std.proofs.Common.{ℕ, ◌+◌, [], List, map, refl, sym, ap₂, ◌∙◌, subst}
use Rattle.std.proofs.lemmas.Result.{err_from_is_err_and}
use Rattle.vd_core.specs.declared.normal.Stmt.{Stmt, If}
use Rattle.vd_rewrite.specs.Rewriting.{Made, run_all, emptied}
use Rattle.vd_rewrite.specs.Stops.{IsTooLarge}
use Rattle.vd_rewrite.proofs.Front.{one_more, stops_in_list, stops_block, stops_then}
use Rattle.vd_long.specs.Lengthened.{nothing_hidden}
use Rattle.vd_long.specs.Walks.{marked_in, lets_of, as_rewriting}
use Rattle.vd_long.proofs.LongSizes.{long_makes}
use Rattle.vd_long.proofs.walk.Walk.+walk.Goals as goal

pub lengthen_all-returns-in_err-lengthen-clause-stop : goal.lengthen_all-returns-in_err-lengthen-clause-stop
lengthen_all-returns-in_err-lengthen-clause-stop t c =
    let p = err_from_is_err_and c.from_residual.result c.from_residual.ensures.1 in
    let w = c.args.self.now in
    rw (p.1, p.2)
    (λ e. stops_in_list nothing_hidden (lets_of w) 1 (long_makes (marked_in w) w.slots.now) w.slots.now [] c.args.block c.args.body.now c.loop-stmt.stmt-index c.stmt-item.result c.loop-stmt.made c.args.made.now
    c.loop-stmt-test.true c.stmt-item.is c.loop-stmt.invariant ((c.in_err-lengthen.ensures {u = tt}).stop e))

pub lengthen_all-loop-stmt-preserved : goal.lengthen_all-loop-stmt-preserved
lengthen_all-loop-stmt-preserved t c =
    let w = c.args.self.now in
    let more = one_more nothing_hidden (lets_of w) 1 (long_makes (marked_in w) w.slots.now) w.slots.now [] c.args.block c.args.body.now c.loop-stmt.stmt-index c.stmt-item.result c.loop-stmt.made c.loop-stmt-test.true c.stmt-item.is in
    rw ((c.in_ok-lengthen.ensures {u = tt}).made) (more ∙ c.loop-stmt.invariant)

pub lengthen-returns-in_err-number-in-If-clause-stop : goal.lengthen-returns-in_err-number-in-If-clause-stop
lengthen-returns-in_err-number-in-If-clause-stop t c =
    let p = err_from_is_err_and c.from_residual.result c.from_residual.ensures.1 in
    let w = c.args.self.now in
    let a = c.as_slice-then_block.result.now in
    let b = c.as_slice-else_block.result.now in
    let is = c.in-If.is ∙ ap₂ (λ (a b : List Stmt). If c.in-If.guard a b c.in-If.offset) (sym c.as_slice-then_block.ensures) (sym c.as_slice-else_block.ensures) in
    rw (p.1, p.2)
    (λ e. stops_block nothing_hidden (lets_of w) 1 (long_makes (marked_in w) w.slots.now) w.slots.now [] c.args.block c.args.made.now c.in-If.guard a b c.in-If.offset c.args.stmt.now is refl
    ((c.in_err-number-in-If.ensures {u = tt}).stop e))

pub lengthen-returns-in_err-then_block-in-If-clause-stop : goal.lengthen-returns-in_err-then_block-in-If-clause-stop
lengthen-returns-in_err-then_block-in-If-clause-stop t c =
    let p = err_from_is_err_and c.from_residual-in_err-then_block-in-If.result c.from_residual-in_err-then_block-in-If.ensures.1 in
    let w = c.args.self.now in
    let a = c.as_slice-then_block.result.now in
    let b = c.as_slice-else_block.result.now in
    let begun = c.in_ok-number-in-If.ensures {u = tt} in
    let is = c.in-If.is ∙ ap₂ (λ (a b : List Stmt). If c.in-If.guard a b c.in-If.offset) (sym c.as_slice-then_block.ensures) (sym c.as_slice-else_block.ensures) in
    rw (p.1, p.2)
    (λ e. stops_then nothing_hidden (lets_of w) 1 (long_makes (marked_in w) w.slots.now) w.slots.now [] c.args.block c.args.made.now c.in-If.guard a b c.in-If.offset c.args.stmt.now is refl
    (subst (λ (n : ℕ). IsTooLarge (run_all (map (as_rewriting w) a) [] n (emptied (record { next = c.args.made.now.next; slots = c.args.made.now.slots; table = c.args.made.now.table; blocks = c.args.made.now.blocks + 1; body = c.args.made.now.body })))) begun.number
    (subst (λ (m : Made). IsTooLarge (run_all (map (as_rewriting w) a) [] c.in_ok-number-in-If.number (emptied m))) begun.more ((c.in_err-then_block-in-If.ensures {u = tt}).stop e))))
