use Rattle.std.proofs.Common.{◌≡◌, drop}
use Rattle.vd_split.specs.Lines.{else_lines, with_more}
use Rattle.vd_split.proofs.marks.turn_branch.Given as goal

abbrev pub invariant-loop-part : goal.invariant-loop-part
invariant-loop-part l = with_more (else_lines (drop l.part-index l.parts)) l.to ≡ with_more (else_lines l.parts) l.initial.to
