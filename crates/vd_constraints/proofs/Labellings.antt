-- What a labelling gives to the places, parts and bounds of its system is over the principals.
use Rattle.std.proofs.Common.{◌≡◌, ℕ, ◌<◌, Bool, true, false, length, sym, ◌∙◌, subst}
use Rattle.vd_formula.specs.TruthTable.{TruthTable, either_of, implies_of}
use Rattle.vd_formula.specs.declared.label.Label.{Label}
use Rattle.vd_formula.proofs.Front.{is_formula-either, is_formula-implies}
use Rattle.vd_constraints.specs.declared.system.Place.{Place}
use Rattle.vd_constraints.specs.declared.system.Place.TheVariants.{Slot, Block}
use Rattle.vd_constraints.specs.declared.system.Part.{Part}
use Rattle.vd_constraints.specs.declared.system.Bound.{Bound}
use Rattle.vd_constraints.specs.declared.system.Bound.TheVariants.{Constant, Same, Given, Or}
use Rattle.vd_constraints.specs.declared.system.Lower.{Lower}
use Rattle.vd_constraints.specs.declared.system.Check.{Check}
use Rattle.vd_constraints.specs.declared.labels.Labels.{Labels}
use Rattle.vd_constraints.specs.Systems.{Constraints, IsOver, IsLabelOver, IsPlaceOf, IsPartOf, IsBoundOf, IsRuleOf, IsCheckOf}
use Rattle.vd_constraints.specs.Satisfies.{no_label, label_at, part_of, formula_at, bound_at, IsBoundOver, IsLabelling}

over-part_of : (n : ℕ) (label : Label) → IsLabelOver n label → (integ : Bool) → IsOver n (part_of label integ)
over-part_of n label is false = is.conf
over-part_of n label is true = is.integ

over-implies : (n : ℕ) (f g : TruthTable) → IsOver n f → IsOver n g → IsOver n (implies_of f g)
unfolding implies_of
over-implies n f g is_f is_g = record { is_formula = is_formula-implies f g is_f.is_formula is_g.is_formula (is_f.over ∙ sym is_g.over); over = is_f.over }

over-either : (n : ℕ) (f g : TruthTable) → IsOver n f → IsOver n g → IsOver n (either_of f g)
unfolding either_of
over-either n f g is_f is_g = record { is_formula = is_formula-either f g is_f.is_formula is_g.is_formula (is_f.over ∙ sym is_g.over); over = is_f.over }

module _ (s : Constraints) (l : Labels) (labelling : IsLabelling s l) where
  pub over-label : (at : Place) → IsPlaceOf s at → IsLabelOver (length s.principals) (label_at l at)
  over-label (Slot x) low = labelling.slot_labels x.0 no_label (subst (λ n. x.0 < n) (sym labelling.slots) low)
  over-label (Block b) low = labelling.block_labels b no_label (subst (λ n. b < n) (sym labelling.blocks) low)

  pub over-part : (part : Part) → IsPartOf s part → IsOver (length s.principals) (formula_at l part)
  over-part part low = over-part_of (length s.principals) (label_at l part.at) (over-label part.at low) part.integ

  pub over-bound : (bound : Bound) → IsBoundOf s bound → IsOver (length s.principals) (bound_at l bound)
  over-bound (Constant f) is = is
  over-bound (Same part) is = over-part part is
  over-bound (Given f part) is = over-implies (length s.principals) f (formula_at l part) is.0 (over-part part is.1)
  over-bound (Or f part) is = over-either (length s.principals) f (formula_at l part) is.0 (over-part part is.1)

  -- ---- the formulas of a rule, and of a check, are over the same names
  names-part : (part : Part) → IsPartOf s part → length s.principals ≡ (formula_at l part).names
  names-part part low = sym (over-part part low).over

  names-bound : (bound : Bound) → IsBoundOf s bound → IsBoundOver (length s.principals) l bound
  names-bound (Constant f) over = sym over.over
  names-bound (Same part) low = names-part part low
  names-bound (Given f part) (over, low) = (sym over.over, names-part part low)
  names-bound (Or f part) (over, low) = (sym over.over, names-part part low)

  pub names-rule : (rule : Lower) → IsRuleOf s rule → IsBoundOver (formula_at l rule.part).names l rule.bound
  names-rule rule valid = subst (λ n. IsBoundOver n l rule.bound) (names-part rule.part valid.part) (names-bound rule.bound valid.bound)

  pub names-check : (check : Check) → IsCheckOf s check → check.constant.names ≡ (formula_at l check.part).names
  names-check check valid = valid.constant.over ∙ names-part check.part valid.part
