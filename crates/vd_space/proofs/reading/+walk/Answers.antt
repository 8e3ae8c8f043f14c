use Rattle.std.proofs.Common.{◌∙◌, arith}
use Rattle.vd_base.specs.Limits.{most_weights}
use Rattle.vd_constraints.proofs.Front.{stmt_fits}
use Rattle.vd_space.proofs.Walks.{on_ok, block_next, add_if, weigh_fits, turns_fit}
use Rattle.vd_space.proofs.reading.+walk.Goals as goal

pub add_block-add_stmt-requires : goal.add_block-add_stmt-requires
add_block-add_stmt-requires t c =
    let heavy = weigh_fits c.args.body.now c.loop-stmt.stmt-index c.stmt-item.result c.args.weight c.loop-stmt-test.true c.stmt-item.is in
    (omega (arith, stmt_fits c.args.body.now c.loop-stmt.stmt-index c.stmt-item.result c.loop-stmt-test.true c.stmt-item.is), omega (arith, heavy))

pub add_block-loop-stmt-preserved : goal.add_block-loop-stmt-preserved
add_block-loop-stmt-preserved t c =
    block_next c.args.labels.now c.loop-stmt.problem c.add_stmt.new.problem c.args.weight c.args.body.now c.loop-stmt.stmt-index c.stmt-item.result c.loop-stmt-test.true c.stmt-item.is c.in_ok-add_stmt.ensures ∙ c.loop-stmt.invariant

pub add_stmt-overflow_mul-weight : goal.add_stmt-overflow_mul-weight
add_stmt-overflow_mul-weight t c =
    let fits = turns_fit c.in-For.count c.in-For.body c.as_slice-turns.result.now c.args.weight most_weights c.args.stmt.now c.in-For.is c.as_slice-turns.ensures (omega arith) c.requires in
    omega (arith, fits)

pub add_stmt-returns-in_ok-add_block-in-If : goal.add_stmt-returns-in_ok-add_block-in-If
add_stmt-returns-in_ok-add_block-in-If t c = on_ok c.add_block-in-If.result
    (λ last. add_if c.args.labels.now c.args.problem.now c.add_block.new.problem c.add_block-in-If.new.problem c.push-in-If.new.self (record { slot = c.in-If.slot; weight = c.args.weight; slots = c.new.result; hosts = c.new-in-If.result }) c.name_block.new.guard c.name_block-in-If.new.guard c.args.weight c.in-If.slot c.in-If.then_block c.in-If.else_block
    c.as_slice.result.now c.as_slice-in-If.result.now c.as_slice-in-If-2.result.now c.as_slice-in-If-3.result.now c.in-If.field-3 c.args.stmt.now
    c.in-If.is c.as_slice.ensures c.as_slice-in-If.ensures c.as_slice-in-If-2.ensures c.as_slice-in-If-3.ensures
    (λ i. record { slot = c.in-If.slot; weight = c.args.weight; slots = c.new.ensures i; hosts = c.new-in-If.ensures i }) (c.in_ok-name_block-in-If.ensures c.args.labels.now) (c.in_ok-name_block-in-If-2.ensures c.args.labels.now) c.in_ok-push-in-If.ensures.ok c.in_ok-add_block-in-If.ensures last)
    c.add_block-in-If.ensures
