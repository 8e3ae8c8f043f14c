use Rattle.std.proofs.Common.{◌∙◌, arith}
use Rattle.vd_base.specs.Limits.{most_weights}
use Rattle.vd_constraints.proofs.Front.{stmt_fits}
use Rattle.vd_space.proofs.Front.{weigh_fits, turns_fit}
use Rattle.vd_draw_rows.proofs.Blocks.{rows_next}
use Rattle.vd_draw_rows.proofs.rows.+walk.Goals as goal

pub add_block-add_stmt-requires : goal.add_block-add_stmt-requires
add_block-add_stmt-requires t c =
    let heavy = weigh_fits c.args.body.now c.loop-stmt.stmt-index c.stmt-item.result c.args.around.weight c.loop-stmt-test.true c.stmt-item.is in
    (omega (arith, stmt_fits c.args.body.now c.loop-stmt.stmt-index c.stmt-item.result c.loop-stmt-test.true c.stmt-item.is), (c.requires.few, omega (arith, heavy, c.requires.light)))

pub add_block-loop-stmt-preserved : goal.add_block-loop-stmt-preserved
add_block-loop-stmt-preserved t c =
    rows_next c.args.placed.source.now c.args.placed.form.now c.args.placed.list.now c.loop-stmt.rows c.add_stmt.new.rows c.args.body.now c.loop-stmt.stmt-index c.stmt-item.result c.args.around.weight c.args.around.depth
    c.loop-stmt-test.true c.stmt-item.is c.in_ok-add_stmt.ensures ∙ c.loop-stmt.invariant

pub add_stmt-overflow_mul-turn : goal.add_stmt-overflow_mul-turn
add_stmt-overflow_mul-turn t c =
    let fits = turns_fit c.in-For.count c.in-For.body c.as_slice-turns.result.now c.args.around.weight most_weights c.args.stmt.now c.in-For.is c.as_slice-turns.ensures (omega arith) c.requires.light in
    omega (arith, fits)
