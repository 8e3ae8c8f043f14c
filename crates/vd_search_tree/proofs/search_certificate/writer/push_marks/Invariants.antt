use Rattle.std.proofs.Common.{◌≡◌, ◌++◌, take, map}
use Rattle.vd_search_tree.specs.Texts.{letter}
use Rattle.vd_search_tree.proofs.search_certificate.writer.push_marks.Given as goal

abbrev pub invariant-loop-mark : goal.invariant-loop-mark
invariant-loop-mark l = l.text ≡ l.initial.text ++ map letter (take l.mark-index l.marks)
