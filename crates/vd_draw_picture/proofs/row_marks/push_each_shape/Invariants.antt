use Rattle.std.proofs.Common.{◌≡◌, ◌++◌, map, take}
use Rattle.vd_draw_picture.specs.RowMarks.{shape_mark}
use Rattle.vd_draw_picture.proofs.row_marks.push_each_shape.Given as goal

abbrev pub invariant-loop-x : goal.invariant-loop-x
invariant-loop-x l = l.marks ≡ l.initial.marks ++ map (shape_mark l.shape) (take l.x-index l.xs)
