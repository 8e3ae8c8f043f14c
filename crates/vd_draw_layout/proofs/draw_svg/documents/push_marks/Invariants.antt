use Rattle.std.proofs.Common.{◌≡◌, ◌++◌, take, flat_map}
use Rattle.vd_draw_layout.specs.Tags.{mark_text}
use Rattle.vd_draw_layout.proofs.draw_svg.documents.push_marks.Given as goal

abbrev pub invariant-loop-mark : goal.invariant-loop-mark
invariant-loop-mark l = l.text ≡ l.initial.text ++ flat_map mark_text (take l.mark-index l.marks)
