-- Each system has an outcome.
use Rattle.std.proofs.Common.{ℕ, zero, suc, ◌+◌, ◌<◌, arith, inl, inr, ◌⊎◌}
use Rattle.std.specs.Prelude.{Result, Ok, Err}
use Rattle.vd_constraints.specs.declared.system.Lower.{Lower}
use Rattle.vd_constraints.specs.declared.system.Check.{Check}
use Rattle.vd_constraints.specs.declared.labels.Labels.{Labels}
use Rattle.vd_constraints.specs.Systems.{Constraints, IsRuleOf, IsSystem}
use Rattle.vd_constraints.specs.Satisfies.{formula_at, bound_at, HoldsRule, HoldsCheck, IsLeastSolution}
use Rattle.vd_constraints.specs.Outcomes.{IsLabelled}
use Rattle.vd_formula.proofs.Front.{acts_or_not}
use Rattle.vd_constraints.proofs.Front.{item_has, all_or_first}
use Rattle.vd_solver.specs.Free.{free}
use Rattle.vd_solver.proofs.Parts.{all_truths}
use Rattle.vd_solver.proofs.LabelsLeastRaising.{IsReached, raised, raised_reached, fewer}
use Rattle.vd_solver.proofs.Free.{free_reached}
use Rattle.vd_solver.proofs.LabelsLeastChecks.{no_labelling, least_of_all}

holds_or_not : (l : Labels) (rule : Lower) → HoldsRule l rule ⊎ (HoldsRule l rule → ⊥)
holds_or_not l rule = acts_or_not (formula_at l rule.part) (bound_at l rule.bound)

passes_or_not : (l : Labels) (check : Check) → HoldsCheck l check ⊎ (HoldsCheck l check → ⊥)
passes_or_not l check = acts_or_not check.constant (formula_at l check.part)

module _ (s : Constraints) (system : IsSystem s) where
  -- the least solution of the rules, where so many raises are left
  solution_within : (raises : ℕ) (l : Labels) → IsReached s l → all_truths l < raises → (least : Labels) × IsLeastSolution s least
  solution_within zero l reached few = absurd (omega arith)
  solution_within (suc raises) l reached few = elim (all_or_first (HoldsRule l) (holds_or_not l) s.lower) [
    | inl all ↦ (l, record { is = record { labelling = reached.labelling; rules = all }; below = reached.below })
    | inr found ↦
        let first = found.1 in
        let valid : IsRuleOf s first.item = item_has (HoldsRule l) s.lower (IsRuleOf s) system.rules found.0 first in
        let less = fewer s l reached first.item valid first.fails in
        solution_within raises (raised s l reached first.item valid)
        (raised_reached s l reached first.item valid (λ other solves. item_has (HoldsRule l) s.lower (HoldsRule other) solves.rules found.0 first))
        (omega arith)
  ]

  least_solution : (least : Labels) × IsLeastSolution s least
  least_solution = solution_within (all_truths (free s) + 1) (free s) (free_reached s system) (omega arith)

  module _ (l : Labels) (least : IsLeastSolution s l) where
    outcome_of : (outcome : Result Labels ℕ) × IsLabelled s outcome
    outcome_of = elim (all_or_first (HoldsCheck l) (passes_or_not l) s.checks) [
      | inl all ↦ (Ok l, least_of_all s system l least all)
      | inr found ↦ (Err found.0, no_labelling s system l least found.0 found.1)
    ]

pub labelled_somehow : (s : Constraints) → IsSystem s → (outcome : Result Labels ℕ) × IsLabelled s outcome
labelled_somehow s system = let solution = least_solution s system in outcome_of s system solution.0 solution.1
