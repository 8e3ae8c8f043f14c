use Rattle.std.proofs.Common.{◌≡◌, ◌++◌, drop}
use Rattle.vd_draw_picture.specs.RowMarks.{joins_from}
use Rattle.vd_draw_picture.proofs.row_marks.push_joins_from.Given as goal

abbrev pub invariant-loop-x : goal.invariant-loop-x
invariant-loop-x l = l.marks ++ joins_from l.last (drop l.x-index l.others) ≡ l.initial.marks ++ joins_from l.first l.others
