-- Shifts that name what a problem has.
use Rattle.std.specs.Prelude.{◌<◌, length}
use Rattle.vd_search_tree.specs.Texts.{IsShift}
use Rattle.vd_search_tree.specs.declared.shift.Shift.{Shift}
use Rattle.vd_space.specs.declared.problem.Problem.{Problem}
use Rattle.vd_space.specs.Validity.{protocols}

-- a use and a protocol of the problem; and the shift can stand in a certificate
pub record NamesUse (problem : Problem) (shift : Shift) : Type 0 where
  pub at : shift.at < length problem.uses
  pub proto : shift.proto < length (protocols problem)
  pub is : IsShift shift
