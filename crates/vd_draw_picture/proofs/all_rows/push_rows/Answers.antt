use Rattle.std.proofs.Common.{◌∙◌, ◌+◌, ap, ℕ}
use Rattle.vd_draw_layout.specs.Numbers.{plus}
use Rattle.vd_draw_picture.proofs.RowSteps.{a_row_more, all_behind}
use Rattle.vd_draw_picture.proofs.all_rows.push_rows.Goals as goal

pub loop-place-preserved : goal.loop-place-preserved
loop-place-preserved c =
    a_row_more c.args.scene.layout.now c.args.scene.hosts.now c.args.scene.slots.now c.args.scene.labels.now _ c.loop-place.marks c.push_step.new.marks
    c.loop-place.y c.saturating_add-y.result c.loop-place.number c.next_number-number.result c.loop-place.last c.next_last-last.result
    c.loop-place.run c.add_row.new.run c.in_ok-run.run' c.args.rows.now _ c.loop-place.place c.index-rows-place.result
    c.loop-place-test.true c.index-rows-place.is (all_behind c.args.rows.now (c.loop-place.place + 1)) c.loop-place.invariant (c.in_ok-add_row.ensures {u = tt}) c.in_ok-run.ensures.marks
    c.in_ok-run.ensures.run (c.saturating_add-y.ensures ∙ ap (λ (h : ℕ). plus c.loop-place.y h) c.whole_height.ensures) c.next_number-number.ensures c.next_last-last.ensures
