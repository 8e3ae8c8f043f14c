use Rattle.std.proofs.Common.{◌≡◌, ◌++◌, take, flat_map}
use Rattle.vd_draw_picture.specs.Arrows.{line_marks}
use Rattle.vd_draw_picture.proofs.arrows.push_lines_to.Given as goal

abbrev pub invariant-loop-to : goal.invariant-loop-to
invariant-loop-to l = l.marks ≡ l.initial.marks ++ flat_map (line_marks l.arrow l.y l.from) (take l.to-index l.tos)
