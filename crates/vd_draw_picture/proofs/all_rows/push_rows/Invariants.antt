use Rattle.std.proofs.Common.{◌≡◌, ◌++◌, drop}
use Rattle.vd_draw_picture.specs.AllRows.{no_run, rows_marks}
use Rattle.vd_draw_picture.proofs.all_rows.push_rows.Given as goal

abbrev pub invariant-loop-place : goal.invariant-loop-place
invariant-loop-place l = l.marks ++ rows_marks l.scene.layout.now l.scene.hosts.now l.scene.slots.now l.scene.labels.now l.y l.number l.last l.run (drop l.place l.rows)
    ≡ l.initial.marks ++ rows_marks l.scene.layout.now l.scene.hosts.now l.scene.slots.now l.scene.labels.now l.top 0 0 no_run l.rows
