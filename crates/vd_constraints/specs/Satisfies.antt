-- Labellings of a system, and the least of them.
use Rattle.std.specs.Prelude.{◌≡◌, ℕ, Bool, true, false, Some, List, length, take, slice_get, slice_index_or, All}
use Rattle.vd_formula.specs.declared.label.Label.{Label}
use Rattle.vd_formula.specs.TruthTable.{TruthTable, ActsFor, any_of, either_of, implies_of}
use Rattle.vd_constraints.specs.declared.system.Place.{Place}
use Rattle.vd_constraints.specs.declared.system.Place.TheVariants.{Slot, Block}
use Rattle.vd_constraints.specs.declared.system.Part.{Part}
use Rattle.vd_constraints.specs.declared.system.Bound.{Bound}
use Rattle.vd_constraints.specs.declared.system.Bound.TheVariants.{Constant, Same, Given, Or}
use Rattle.vd_constraints.specs.declared.system.Lower.{Lower}
use Rattle.vd_constraints.specs.declared.system.Check.{Check}
use Rattle.vd_constraints.specs.declared.labels.Labels.{Labels}
use Rattle.vd_constraints.specs.Systems.{Constraints, IsLabelOver}

abbrev pub no_label : Label
no_label = record { conf = any_of 0; integ = any_of 0 }

abbrev pub label_at : Labels → Place → Label
label_at l (Slot x) = slice_index_or l.slots x.0 no_label
label_at l (Block b) = slice_index_or l.blocks b no_label

abbrev pub part_of : Label → Bool → TruthTable
part_of label false = label.conf
part_of label true = label.integ

-- the formula that a labelling gives to a part
abbrev pub formula_at : Labels → Part → TruthTable
formula_at l part = part_of (label_at l part.at) part.integ

abbrev pub bound_at : Labels → Bound → TruthTable
bound_at l (Constant f) = f
bound_at l (Same part) = formula_at l part
bound_at l (Given f part) = implies_of f (formula_at l part)
bound_at l (Or f part) = either_of f (formula_at l part)

-- the formulas of a bound are over so many names
abbrev pub IsBoundOver : ℕ → Labels → Bound → Type 0
IsBoundOver names l (Constant f) = names ≡ f.names
IsBoundOver names l (Same part) = names ≡ (formula_at l part).names
IsBoundOver names l (Given f part) = (names ≡ f.names) × (names ≡ (formula_at l part).names)
IsBoundOver names l (Or f part) = (names ≡ f.names) × (names ≡ (formula_at l part).names)

-- the part acts for the bound
abbrev pub HoldsRule : Labels → Lower → Type 0
HoldsRule l rule = ActsFor (formula_at l rule.part) (bound_at l rule.bound)

-- the constant acts for the part
abbrev pub HoldsCheck : Labels → Check → Type 0
HoldsCheck l check = ActsFor check.constant (formula_at l check.part)

-- a labelling gives a label over the principals to each slot and each block
pub record IsLabelling (s : Constraints) (l : Labels) : Type 0 where
  pub slots : length l.slots ≡ s.slots
  pub blocks : length l.blocks ≡ s.blocks
  pub slot_labels : All (IsLabelOver (length s.principals)) l.slots
  pub block_labels : All (IsLabelOver (length s.principals)) l.blocks

-- a labelling at which all rules hold
pub record SolvesRules (s : Constraints) (l : Labels) : Type 0 where
  pub labelling : IsLabelling s l
  pub rules : All (HoldsRule l) s.lower

-- a labelling at which all rules and checks hold
pub record Satisfies (s : Constraints) (l : Labels) : Type 0 where
  pub solves : SolvesRules s l
  pub checks : All (HoldsCheck l) s.checks

-- each part of the other labelling acts for the same part of this one
abbrev pub IsBelow : Labels → Labels → Type 0
IsBelow l other = (part : Part) → ActsFor (formula_at other part) (formula_at l part)

-- the least of the labellings with this property
pub record IsLeastOf (P : Labels → Type 0) (l : Labels) : Type 0 where
  pub is : P l
  pub below : (other : Labels) → P other → IsBelow l other

-- the least labelling at which all rules hold
abbrev pub IsLeastSolution : Constraints → Labels → Type 0
IsLeastSolution s l = IsLeastOf (SolvesRules s) l

-- the least labelling at which all rules and checks hold
abbrev pub IsLeast : Constraints → Labels → Type 0
IsLeast s l = IsLeastOf (Satisfies s) l

-- the item at this place is the first that has not the property
pub record IsFirstWithout {X : Type 0} (P : X → Type 0) (list : List X) (at : ℕ) : Type 0 where
  pub item : X
  pub there : slice_get list at ≡ Some item
  pub fails : ¬ P item
  pub before : All P (take at list)
