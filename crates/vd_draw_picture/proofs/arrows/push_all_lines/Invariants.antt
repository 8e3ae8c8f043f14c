use Rattle.std.proofs.Common.{◌≡◌, ◌++◌, take, flat_map}
use Rattle.vd_draw_picture.specs.Arrows.{lines_to}
use Rattle.vd_draw_picture.proofs.arrows.push_all_lines.Given as goal

abbrev pub invariant-loop-from : goal.invariant-loop-from
invariant-loop-from l = l.marks ≡ l.initial.marks ++ flat_map (lines_to l.arrow l.y l.tos) (take l.from-index l.froms)
