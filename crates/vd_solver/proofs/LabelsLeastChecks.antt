-- The checks at the least solution of the rules.
use Rattle.std.proofs.Common.{ℕ}
use Rattle.std.specs.Prelude.{All}
use Rattle.vd_formula.proofs.Front.{acts_trans}
use Rattle.vd_constraints.specs.declared.system.Check.{Check}
use Rattle.vd_constraints.specs.declared.labels.Labels.{Labels}
use Rattle.vd_constraints.specs.Systems.{Constraints, IsCheckOf, IsSystem}
use Rattle.vd_constraints.specs.Satisfies.{formula_at, HoldsCheck, Satisfies, IsLeastSolution, IsLeast, IsFirstWithout}
use Rattle.vd_constraints.specs.Outcomes.{HasNoLabelling}
use Rattle.vd_constraints.proofs.Front.{names-check, item_has}

module _ (s : Constraints) (system : IsSystem s) (l : Labels) (least : IsLeastSolution s l) where
  -- a check that holds at some solution holds at the least one
  holds_below : (other : Labels) → Satisfies s other → (check : Check) → IsCheckOf s check → HoldsCheck other check → HoldsCheck l check
  holds_below other satisfies check valid holds =
      acts_trans check.constant (formula_at other check.part) (formula_at l check.part) (names-check s other satisfies.solves.labelling check valid) holds (least.below other satisfies.solves check.part)

  pub no_labelling : (at : ℕ) → IsFirstWithout (HoldsCheck l) s.checks at → HasNoLabelling s at
  no_labelling at first = record {
    none = λ other satisfies.
        first.fails (holds_below other satisfies first.item (item_has (HoldsCheck l) s.checks (IsCheckOf s) system.checks at first)
        (item_has (HoldsCheck l) s.checks (HoldsCheck other) satisfies.checks at first));
    least = l;
    solves_rules = least;
    first = first;
  }

  pub least_of_all : All (HoldsCheck l) s.checks → IsLeast s l
  least_of_all all = record { is = record { solves = least.is; checks = all }; below = λ other satisfies. least.below other satisfies.solves }
