-- Marks in memory.
use Rattle.std.specs.Prelude.{◌≡◌, ◌||◌, true, false, List, [], ◌∷◌, length, None, Result, Ok, Err, nat_eq, if◌then◌else◌}
use Rattle.std.specs.Str.{bytes_eq}
use Rattle.vd_base.specs.declared.faults.CallFault.{CallFault}
use Rattle.vd_base.specs.declared.faults.CallFault.TheVariants as call_fault
use Rattle.vd_outside.specs.Files.{Contents}
use Rattle.vd_fakes.specs.Failing.{fails_next, with_call, with_fault}
use Rattle.vd_fakes.specs.declared.failures.Failures.{Failures}
use Rattle.vd_outside.specs.Marks.{MarksView}
use Rattle.vd_fakes.specs.declared.mem_marks.Mark.{Mark}
use Rattle.vd_fakes.specs.declared.mem_marks.MemMarks.{MemMarks}

-- what stands at a place by the first mark of it
abbrev pub taken_of : List Mark → Contents
taken_of [] place = None
taken_of (mark ∷ marks) place = if bytes_eq mark.place place then mark.bytes else taken_of marks place

abbrev pub marks_view : MemMarks → MarksView
marks_view marks = record { told = true; taken = taken_of marks.marks; draws = marks.draws; asked = marks.asked; faults = marks.failures.faults }

-- A draw fails where its call is one that fails, or no draws are left.
abbrev pub DrawFailsAsListed : {D T : Type 0} → Failures → List D → Result T CallFault → Failures → Type 0
DrawFailsAsListed before draws (Ok drawn) now = (fails_next before ≡ false) × (now ≡ with_call before)
DrawFailsAsListed before draws (Err call_fault.Failed) now = ((fails_next before || nat_eq (length draws) 0) ≡ true) × (now ≡ with_fault before)
DrawFailsAsListed before draws (Err call_fault.Memory) now = now ≡ with_call before
