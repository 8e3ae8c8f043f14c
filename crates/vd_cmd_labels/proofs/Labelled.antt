-- The steps of the command `labels`.
use Rattle.std.proofs.Common.{◌≡◌, ℕ, ◌<◌, Result, List, [], length, refl, sym, ap, ◌∙◌, subst, arith}
use Rattle.std.specs.Prelude.{Ok, Err}
use Rattle.std.proofs.lemmas.List.Elements.{All-nil}
use Rattle.std.proofs.lemmas.Option.{slice_get_within}
use Rattle.vd_core.specs.declared.normal.NormalForm.{NormalForm}
use Rattle.vd_constraints.specs.Origins.{origins_of}
use Rattle.vd_constraints.specs.Rules.{system_of}
use Rattle.vd_constraints.specs.Satisfies.{HoldsCheck, IsLabelling, SolvesRules, IsLeastSolution, IsLeast}
use Rattle.vd_constraints.specs.Systems.{Constraints, IsCheckOf, IsSystem}
use Rattle.vd_constraints.specs.Outcomes.{HasNoLabelling, IsLabelled}
use Rattle.vd_constraints.specs.declared.labels.Labels.{Labels}
use Rattle.vd_constraints.specs.declared.origin.Origin.{Origin}
use Rattle.vd_constraints.specs.declared.system.Check.{Check}
use Rattle.vd_solver.proofs.Front.{labelling_of, labelling_is, labelled_once}
use Rattle.vd_cmd_plan.specs.declared.status.FlowFault.{FlowFault}
use Rattle.vd_cmd_plan.specs.declared.status.Status.TheVariants.{Flow}
use Rattle.vd_cmd_labels.specs.Outcomes.{LabelOutcomes}
use Rattle.vd_cmd_labels.specs.Labelling.{as_labels, fault_of, labels_of}

-- the one outcome of a system is the one that was found
pub labelled : (least : LabelOutcomes) (program : NormalForm) (result : Result Labels ℕ) → IsSystem (system_of program) → IsLabelled (system_of program) result → labels_of least program ≡ as_labels least program result
labelled least program result valid is =
    ap (as_labels least program) (labelled_once (system_of program) (least.label (system_of program)) result (least.label_is (system_of program) valid) is)

-- ---- the rules of a system alone: one without checks has a least labelling, which is the least solution of the rules

abbrev without_checks : Constraints → Constraints
without_checks s = record s { checks = [] }

module _ (s : Constraints) where
  there : (l : Labels) → SolvesRules s l → SolvesRules (without_checks s) l
  there l is = record {
    labelling = record { slots = is.labelling.slots; blocks = is.labelling.blocks; slot_labels = is.labelling.slot_labels; block_labels = is.labelling.block_labels };
    rules = is.rules;
  }

  back : (l : Labels) → SolvesRules (without_checks s) l → SolvesRules s l
  back l is = record {
    labelling = record { slots = is.labelling.slots; blocks = is.labelling.blocks; slot_labels = is.labelling.slot_labels; block_labels = is.labelling.block_labels };
    rules = is.rules;
  }

  alone : (l : Labels) → IsLeastSolution s l → IsLeast (without_checks s) l
  alone l least = record {
    is = record { solves = there l least.is; checks = All-nil (HoldsCheck l) };
    below = λ other satisfies. least.below other (back other satisfies.solves);
  }

  of_rules : (l : Labels) → IsLeast (without_checks s) l → IsLeastSolution s l
  of_rules l least = record {
    is = back l least.is.solves;
    below = λ other solves. least.below other (record { solves = there other solves; checks = All-nil (HoldsCheck other) });
  }

  ok_same : (a b : Labels) → ◌≡◌ {A = Result Labels ℕ} (Ok a) (Ok b) → a ≡ b
  ok_same a b e = cc

  -- there is one least solution
  solution_once : (a b : Labels) → IsLeastSolution s a → IsLeastSolution s b → a ≡ b
  solution_once a b first second = ok_same a b (labelled_once (without_checks s) (Ok a) (Ok b) (alone a first) (alone b second))

  valid_alone : IsSystem s → IsSystem (without_checks s)
  valid_alone valid = record {
    few_principals = valid.few_principals;
    rules = valid.rules;
    checks = All-nil (IsCheckOf (without_checks s));
    few_rules = valid.few_rules;
    few_checks = omega arith;
  }

-- and some function gives it
labels_in : Result Labels ℕ → Labels
labels_in (Ok labels) = labels
labels_in (Err number) = record { slots = []; blocks = [] }

solved : (s : Constraints) (result : Result Labels ℕ) → IsLabelled (without_checks s) result → IsLeastSolution s (labels_in result)
unfolding labels_in
solved s (Ok labels) least = of_rules s labels least
solved s (Err number) refused = let low = slice_get_within [] number refused.first.item refused.first.there in absurd (omega (arith, low))

pub solution_of : Constraints → Labels
solution_of s = labels_in (labelling_of (without_checks s))

pub solution_is : (s : Constraints) → IsSystem s → IsLeastSolution s (solution_of s)
unfolding solution_of
solution_is s valid = solved s (labelling_of (without_checks s)) (labelling_is (without_checks s) (valid_alone s valid))

-- ---- what the code finds

-- the number is that of a check
pub check_within : (s : Constraints) (checks : List Check) (number : ℕ) → checks ≡ s.checks → HasNoLabelling s number → number < length checks
check_within s checks number same refused =
    subst (λ (cs : List Check). number < length cs) (sym same) (slice_get_within s.checks number refused.first.item refused.first.there)

-- and that of what asks for it
pub origin_within : (s : Constraints) (origins : List Origin) (number : ℕ) → length origins ≡ length s.checks → HasNoLabelling s number → number < length origins
origin_within s origins number as_many refused = subst (λ n. number < n) (sym as_many) (check_within s s.checks number refl refused)

module _ (least : LabelOutcomes) (p : NormalForm) (s : Constraints) (is : s ≡ system_of p) (valid : IsSystem s) where
  -- the least labels
  pub labels_found : (labels : Labels) → IsLabelled s (Ok labels) → labels_of least p ≡ Ok labels
  labels_found labels found = labelled least p (Ok labels) (subst IsSystem is valid) (subst (λ (t : Constraints). IsLabelled t (Ok labels)) is found)

  -- or the first check that fails, with what is carried of it
  pub none_found : (number : ℕ) (solution : Labels) (checks : List Check) (origins : List Origin) (form : NormalForm) (fault : FlowFault) → IsLabelled s (Err number) → IsLeastSolution s solution → checks ≡ s.checks → origins ≡ origins_of p → form ≡ p
      → fault ≡ fault_of form solution checks origins number → labels_of least p ≡ Err (Flow fault)
  none_found number solution checks origins form fault refused solves same_checks same_origins same_form carries =
      let once : solution ≡ least.solution s = solution_once s solution (least.solution s) solves (least.solution_is s valid) in
      labelled least p (Err number) (subst IsSystem is valid) (subst (λ (t : Constraints). IsLabelled t (Err number)) is refused)
      ∙ ap (λ (t : Constraints). Err (Flow (fault_of p (least.solution t) t.checks (origins_of p) number))) (sym is)
      ∙ sym (λ i. Err (Flow (fault_of (same_form i) (once i) (same_checks i) (same_origins i) number)))
      ∙ ap (λ (f : FlowFault). Err (Flow f)) (sym carries)
