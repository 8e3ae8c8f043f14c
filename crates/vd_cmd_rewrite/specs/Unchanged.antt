-- Programs for which protocols can be chosen stay as they are.
use Rattle.std.specs.Prelude.{◌≡◌, List}
use Rattle.vd_base.specs.declared.protocols.Proto.{Proto}
use Rattle.vd_core.specs.declared.normal.NormalForm.{NormalForm}
use Rattle.vd_core.specs.Facts.{IsWellMade}
use Rattle.vd_constraints.specs.Rules.{system_of}
use Rattle.vd_constraints.specs.Satisfies.{Satisfies}
use Rattle.vd_constraints.specs.declared.labels.Labels.{Labels}
use Rattle.vd_space.specs.Reading.{problem_of}
use Rattle.vd_space.specs.Cheapest.{IsAssignment}
use Rattle.vd_mux.specs.Hidden.{turn_of}
use Rattle.vd_long.specs.Marks.{lengthen_of}

-- where some assignment of protocols is valid, nothing is hidden
abbrev pub ChosenProgramsStay : Type 0
ChosenProgramsStay = (p : NormalForm) (l : Labels) (protocols : List Proto) → IsWellMade p → Satisfies (system_of p) l → IsAssignment (problem_of p l) protocols → turn_of p l ≡ p

-- and each slot has a candidate
abbrev pub ChosenDivisionsStay : Type 0
ChosenDivisionsStay = (p : NormalForm) (l : Labels) (protocols : List Proto) → IsWellMade p → IsAssignment (problem_of p l) protocols → lengthen_of p l ≡ p
