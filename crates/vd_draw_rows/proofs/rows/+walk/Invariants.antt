use Rattle.std.proofs.Common.{◌≡◌, ◌+◌, ◌*◌, ◌++◌, drop, map}
use Rattle.vd_core.specs.Facts.{count_of, statement_count}
use Rattle.vd_draw_rows.specs.Rows.{all_rows, drawn}
use Rattle.vd_draw_rows.proofs.rows.+walk.Given as goal

abbrev pub decreases-add_block : goal.decreases-add_block
decreases-add_block l = 2 * statement_count l.body.now + 1

abbrev pub decreases-add_stmt : goal.decreases-add_stmt
decreases-add_stmt l = 2 * count_of l.stmt.now

-- the rows that are left complete those so far
abbrev pub invariant-add_block-loop-stmt : goal.invariant-add_block-loop-stmt
invariant-add_block-loop-stmt l =
    l.rows ++ all_rows (map (drawn l.placed.source.now l.placed.form.now l.placed.list.now) (drop l.stmt-index l.body)) l.around.weight l.around.depth
    ≡ l.initial.rows ++ all_rows (map (drawn l.placed.source.now l.placed.form.now l.placed.list.now) l.body) l.around.weight l.around.depth
