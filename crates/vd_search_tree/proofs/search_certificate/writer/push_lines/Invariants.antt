use Rattle.std.proofs.Common.{◌≡◌, ◌++◌, take, flat_map}
use Rattle.vd_search_tree.specs.Texts.{shift_text}
use Rattle.vd_search_tree.proofs.search_certificate.writer.push_lines.Given as goal

abbrev pub invariant-loop-shift : goal.invariant-loop-shift
invariant-loop-shift l = l.text ≡ l.initial.text ++ flat_map shift_text (take l.shift-index l.shifts)
