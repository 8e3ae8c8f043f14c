-- What shifts of uses and of arcs a certificate can have.
use Rattle.std.specs.Prelude.{ℕ, ◌<◌, ◌≤◌, List, length}
use Rattle.std.specs.List.{AllByRecursion}
use Rattle.vd_base.specs.Limits.{most_certificate_shifts}
use Rattle.vd_search_tree.specs.declared.shift.Shift.{Shift}
use Rattle.vd_space.specs.declared.problem.Problem.{Problem}
use Rattle.vd_space.specs.Arcs.{arcs}
use Rattle.vd_space.specs.Validity.{protocols}

-- one of so many uses or arcs, a side and one of so many protocols, and some amount; all of 32 bits
pub record IsShiftOf (count choices : ℕ) (shift : Shift) : Type 0 where
  pub at : shift.at < count
  pub number : shift.at ≤ 4294967295
  pub side : shift.side ≤ 1
  pub proto : shift.proto < choices
  pub some : 1 ≤ shift.amount
  pub amount : shift.amount ≤ 4294967295

-- few enough for a certificate
pub record AreShiftsOf (count choices : ℕ) (shifts : List Shift) : Type 0 where
  pub few : length shifts ≤ most_certificate_shifts
  pub each : AllByRecursion (IsShiftOf count choices) shifts

-- each names a use and a protocol of the problem
abbrev pub AreUseShifts : Problem → List Shift → Type 0
AreUseShifts problem shifts = AreShiftsOf (length problem.uses) (length (protocols problem)) shifts

-- each names an arc and a protocol of the problem
abbrev pub AreArcShifts : Problem → List Shift → Type 0
AreArcShifts problem shifts = AreShiftsOf (length (arcs problem)) (length (protocols problem)) shifts
