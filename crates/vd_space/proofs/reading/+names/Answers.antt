use Rattle.std.proofs.Common.{sym, ◌∙◌, arith}
use Rattle.vd_constraints.proofs.Front.{stmt_fits}
use Rattle.vd_space.proofs.Walks.{on_ok, branch_next, branch_done, name_if, name_for}
use Rattle.vd_space.proofs.reading.+names.Goals as goal

pub name_block-name_stmt-requires : goal.name_block-name_stmt-requires
name_block-name_stmt-requires t c = (omega (arith, stmt_fits c.args.body.now c.loop-stmt.stmt-index c.stmt-item.result c.loop-stmt-test.true c.stmt-item.is), tt)

pub name_block-loop-stmt-preserved : goal.name_block-loop-stmt-preserved
name_block-loop-stmt-preserved t c = λ labels.
    branch_next labels c.loop-stmt.guard c.name_stmt.new.guard c.args.body.now c.loop-stmt.stmt-index c.stmt-item.result c.loop-stmt-test.true c.stmt-item.is (c.in_ok-name_stmt.ensures labels) ∙ c.loop-stmt.invariant labels

pub name_block-returns : goal.name_block-returns
name_block-returns t c = λ l. sym (branch_done l c.loop-stmt.guard c.args.body.now c.loop-stmt.stmt-index c.loop-stmt-test.false) ∙ c.loop-stmt.invariant l

pub name_stmt-returns-in_ok-name_block-in-If : goal.name_stmt-returns-in_ok-name_block-in-If
name_stmt-returns-in_ok-name_block-in-If t c = on_ok c.name_block-in-If.result
    (λ last l. name_if l c.args.guard.now c.name_block.new.guard c.name_block-in-If.new.guard c.push-in-If.new.self c.in-If.slot c.in-If.then_block c.in-If.else_block c.as_slice.result.now c.as_slice-in-If.result.now c.in-If.field-3 c.args.stmt.now
    c.in-If.is c.as_slice.ensures c.as_slice-in-If.ensures c.in_ok-push-in-If.ensures.ok (c.in_ok-name_block-in-If.ensures l) (last l))
    c.name_block-in-If.ensures

pub name_stmt-returns-in-For : goal.name_stmt-returns-in-For
name_stmt-returns-in-For t c = on_ok c.name_block-in-For.result
    (λ last l. name_for l c.args.guard.now c.name_block-in-For.new.guard c.in-For.field-0 c.in-For.body c.as_slice-in-For.result.now c.args.stmt.now c.in-For.is c.as_slice-in-For.ensures (last l))
    c.name_block-in-For.ensures
