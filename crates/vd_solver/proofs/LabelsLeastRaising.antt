-- A rule that fails raises its part: the part becomes the conjunction of what it was and of the rule's bound.
use Rattle.std.proofs.Common.{◌≡◌, ◌<◌, length, sym, ◌∙◌, subst, inl, inr}
use Rattle.vd_formula.specs.TruthTable.{TruthTable, ActsFor, both_of}
use Rattle.vd_formula.proofs.Front.{is_formula-both, acts_refl, acts_trans, acts_for_both, both_less, names-both, either_grows, implies_grows}
use Rattle.vd_constraints.specs.declared.system.Part.{Part}
use Rattle.vd_constraints.specs.declared.system.Bound.{Bound}
use Rattle.vd_constraints.specs.declared.system.Bound.TheVariants.{Constant, Same, Given, Or}
use Rattle.vd_constraints.specs.declared.system.Lower.{Lower}
use Rattle.vd_constraints.specs.declared.labels.Labels.{Labels}
use Rattle.vd_constraints.specs.Systems.{Constraints, IsOver, IsPartOf, IsBoundOf, IsRuleOf}
use Rattle.vd_constraints.specs.Satisfies.{formula_at, bound_at, HoldsRule, IsLabelling, SolvesRules, IsBelow}
use Rattle.vd_constraints.proofs.Front.{over-part, over-bound}
use Rattle.vd_solver.specs.LabelsLeastRaising.{IsWithin, with_part}
use Rattle.vd_solver.proofs.Parts.{within, formula-same, formula-other, with_part_is, all_truths, fewer_truths}

-- each labelling at which all rules hold is above this one
pub record IsReached (s : Constraints) (l : Labels) : Type 0 where
  pub labelling : IsLabelling s l
  pub below : (other : Labels) → SolvesRules s other → IsBelow l other

-- where every part of one labelling acts for the same part of another, so do the bounds
module _ (s : Constraints) (high low : Labels) (is_high : IsLabelling s high) (is_low : IsLabelling s low) (above : IsBelow low high) where
  same_names : (l : Labels) → IsLabelling s l → (f : TruthTable) (part : Part) → IsOver (length s.principals) f → IsPartOf s part → f.names ≡ (formula_at l part).names
  same_names l is f part over there = over.over ∙ sym (over-part s l is part there).over

  bound_grows : (bound : Bound) → IsBoundOf s bound → ActsFor (bound_at high bound) (bound_at low bound)
  bound_grows (Constant f) over = acts_refl f
  bound_grows (Same part) there = above part
  bound_grows (Given f part) (over, there) =
      implies_grows f (formula_at high part) (formula_at low part) over.is_formula (over-part s high is_high part there).is_formula (over-part s low is_low part there).is_formula
      (same_names high is_high f part over there) (same_names low is_low f part over there) (above part)
  bound_grows (Or f part) (over, there) = either_grows f (formula_at high part) (formula_at low part) (same_names high is_high f part over there) (above part)

module _ (s : Constraints) (l : Labels) (reached : IsReached s l) (rule : Lower) (valid : IsRuleOf s rule) where
  part_is : IsOver (length s.principals) (formula_at l rule.part)
  part_is = over-part s l reached.labelling rule.part valid.part

  bound_is : IsOver (length s.principals) (bound_at l rule.bound)
  bound_is = over-bound s l reached.labelling rule.bound valid.bound

  names : (formula_at l rule.part).names ≡ (bound_at l rule.bound).names
  names = part_is.over ∙ sym bound_is.over

  abbrev pub joined : TruthTable
  joined = both_of (formula_at l rule.part) (bound_at l rule.bound)

  abbrev pub raised : Labels
  raised = with_part l rule.part joined

  pub low : IsWithin l rule.part.at
  low = within s l reached.labelling rule.part.at valid.part

  pub is_labelling : IsLabelling s raised
  is_labelling = with_part_is s l reached.labelling rule.part joined valid.part (record {
    is_formula = is_formula-both (formula_at l rule.part) (bound_at l rule.bound) part_is.is_formula bound_is.is_formula names;
    over = names-both (formula_at l rule.part) (bound_at l rule.bound) ∙ part_is.over;
  })

  -- a labelling at which the rule holds and that is above the one is above the other
  still_below : (other : Labels) → SolvesRules s other → HoldsRule other rule → ActsFor (formula_at other rule.part) joined
  still_below other solves holds =
      let over = over-part s other solves.labelling rule.part valid.part in
      let bound = over-bound s other solves.labelling rule.bound valid.bound in
      acts_for_both (formula_at other rule.part) (formula_at l rule.part) (bound_at l rule.bound) (over.over ∙ sym part_is.over) (reached.below other solves rule.part)
      (acts_trans (formula_at other rule.part) (bound_at other rule.bound) (bound_at l rule.bound) (over.over ∙ sym bound.over) holds
      (bound_grows s other l solves.labelling reached.labelling (reached.below other solves) rule.bound valid.bound))

  pub raised_reached : ((other : Labels) → SolvesRules s other → HoldsRule other rule) → IsReached s raised
  raised_reached holds = record {
    labelling = is_labelling;
    below = λ other solves part. elim (formula-other l rule.part joined low part) [
      | inl same ↦ subst (ActsFor (formula_at other part)) (sym same) (reached.below other solves part)
      | inr e ↦ subst (λ (q : Part). ActsFor (formula_at other q) (formula_at raised q)) (sym e)
          (subst (ActsFor (formula_at other rule.part)) (sym (formula-same l rule.part joined low)) (still_below other solves (holds other solves)))
    ];
  }

  pub fewer : (HoldsRule l rule → ⊥) → all_truths raised < all_truths l
  fewer failed = fewer_truths l rule.part joined low (both_less (formula_at l rule.part) (bound_at l rule.bound) part_is.is_formula bound_is.is_formula names failed)
