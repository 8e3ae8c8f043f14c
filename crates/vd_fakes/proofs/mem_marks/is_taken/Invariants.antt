use Rattle.std.proofs.Common.{◌≡◌, drop}
use Rattle.vd_fakes.specs.MemMarks.{taken_of}
use Rattle.vd_fakes.proofs.mem_marks.is_taken.Given as goal

abbrev pub invariant-loop-mark : goal.invariant-loop-mark
invariant-loop-mark l = taken_of (drop l.mark-index l.marks) l.place ≡ taken_of l.marks l.place
