-- Shifts of so many uses and protocols are those of a problem that has so many.
use Rattle.std.proofs.Common.{◌≡◌, ℕ, Option, Result, List, length, subst}
use Rattle.std.specs.Prelude.{IfOk, IfSome}
use Rattle.vd_space.specs.Shifts.{AreShiftsOf, AreUseShifts}
use Rattle.vd_search_tree.specs.declared.shift.Shift.{Shift}
use Rattle.vd_space.specs.declared.problem.Problem.{Problem}
use Rattle.vd_space.specs.Validity.{protocols}

pub of_problem : {E : Type 0} (problem : Problem) (count choices : ℕ) (result : Result (Option (List Shift)) E) → count ≡ length problem.uses → choices ≡ length (protocols problem)
    → IfOk result (λ found. IfSome found (AreShiftsOf count choices)) → IfOk result (λ found. IfSome found (AreUseShifts problem))
of_problem problem count choices result same_uses same_choices are =
    subst (λ (c : ℕ). IfOk result (λ found. IfSome found (AreShiftsOf (length problem.uses) c))) same_choices
    (subst (λ (n : ℕ). IfOk result (λ found. IfSome found (AreShiftsOf n choices))) same_uses are)
