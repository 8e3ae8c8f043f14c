use Rattle.std.proofs.Common.{◌≡◌, drop}
use Rattle.vd_split.specs.Lines.{end_lines, with_more}
use Rattle.vd_split.proofs.marks.close.Given as goal

abbrev pub invariant-loop-part : goal.invariant-loop-part
invariant-loop-part l = with_more (end_lines (drop l.part-index l.parts)) l.to ≡ with_more (end_lines l.parts) l.initial.to
