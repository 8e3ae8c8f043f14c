use Rattle.std.proofs.Common.{◌≡◌, drop}
use Rattle.vd_bound.specs.Shifts.{first_bad}
use Rattle.vd_bound.proofs.checking.first_bad_shift.Given as goal

abbrev pub invariant-loop-number : goal.invariant-loop-number
invariant-loop-number l = first_bad l.uses l.protocols l.number (drop l.number l.shifts) ≡ first_bad l.uses l.protocols 0 l.shifts
