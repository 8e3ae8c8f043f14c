use Rattle.std.proofs.Common.{◌≡◌, drop}
use Rattle.vd_draw_picture.specs.RowMarks.{height_from}
use Rattle.vd_draw_picture.proofs.row_marks.height_inside.Given as goal

abbrev pub invariant-loop-place : goal.invariant-loop-place
invariant-loop-place l =
    height_from l.depth l.height l.number l.last (drop l.place l.rows) ≡ height_from l.depth 0 l.initial.number l.initial.last l.rows
