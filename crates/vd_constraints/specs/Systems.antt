-- Systems of rules and checks on the labels of slots and blocks.
use Rattle.std.specs.Prelude.{◌≡◌, ℕ, ◌+◌, ◌^◌, ◌<◌, ◌≤◌, List, length, All}
use Rattle.vd_base.specs.Limits.{most_principals}
use Rattle.vd_formula.specs.declared.label.Label.{Label}
use Rattle.vd_formula.specs.TruthTable.{TruthTable, IsFormula}
use Rattle.vd_constraints.specs.declared.system.Place.{Place}
use Rattle.vd_constraints.specs.declared.system.Place.TheVariants.{Slot, Block}
use Rattle.vd_constraints.specs.declared.system.Part.{Part}
use Rattle.vd_constraints.specs.declared.system.Bound.{Bound}
use Rattle.vd_constraints.specs.declared.system.Bound.TheVariants.{Constant, Same, Given, Or}
use Rattle.vd_constraints.specs.declared.system.Lower.{Lower}
use Rattle.vd_constraints.specs.declared.system.Check.{Check}

-- The rules and checks on the labels of so many slots and blocks, over these principals.
pub record Constraints : Type 0 where
  pub principals : List (List ℕ)
  pub slots : ℕ
  pub blocks : ℕ
  pub lower : List Lower
  pub checks : List Check

-- rules, checks and blocks together
abbrev pub size : Constraints → ℕ
size s = length s.lower + length s.checks + s.blocks

-- 32 bits number them all
abbrev pub IsSmall : Constraints → Type 0
IsSmall s = size s < 2 ^ 32

-- a formula over so many names
pub record IsOver (names : ℕ) (formula : TruthTable) : Type 0 where
  pub is_formula : IsFormula formula
  pub over : formula.names ≡ names

pub record IsLabelOver (names : ℕ) (label : Label) : Type 0 where
  pub conf : IsOver names label.conf
  pub integ : IsOver names label.integ

-- one of so many slots, or of so many blocks
abbrev pub IsPlaceIn : ℕ → ℕ → Place → Type 0
IsPlaceIn slots blocks (Slot x) = x.0 < slots
IsPlaceIn slots blocks (Block b) = b < blocks

abbrev pub IsBoundIn : ℕ → ℕ → ℕ → Bound → Type 0
IsBoundIn names slots blocks (Constant f) = IsOver names f
IsBoundIn names slots blocks (Same part) = IsPlaceIn slots blocks part.at
IsBoundIn names slots blocks (Given f part) = IsOver names f × IsPlaceIn slots blocks part.at
IsBoundIn names slots blocks (Or f part) = IsOver names f × IsPlaceIn slots blocks part.at

pub record IsRuleIn (names slots blocks : ℕ) (rule : Lower) : Type 0 where
  pub part : IsPlaceIn slots blocks rule.part.at
  pub bound : IsBoundIn names slots blocks rule.bound

pub record IsCheckIn (names slots blocks : ℕ) (check : Check) : Type 0 where
  pub constant : IsOver names check.constant
  pub part : IsPlaceIn slots blocks check.part.at

-- the same of a system's own names, slots and blocks
abbrev pub IsFormulaOf : Constraints → TruthTable → Type 0
IsFormulaOf s = IsOver (length s.principals)

abbrev pub IsLabelOf : Constraints → Label → Type 0
IsLabelOf s = IsLabelOver (length s.principals)

abbrev pub IsPlaceOf : Constraints → Place → Type 0
IsPlaceOf s = IsPlaceIn s.slots s.blocks

-- the places of a step: its block, what it makes and what it makes that of
pub record AreOfStep (s : Constraints) (pc x y : Place) : Type 0 where
  pub block : IsPlaceOf s pc
  pub made : IsPlaceOf s x
  pub from : IsPlaceOf s y

abbrev pub IsPartOf : Constraints → Part → Type 0
IsPartOf s part = IsPlaceOf s part.at

abbrev pub IsBoundOf : Constraints → Bound → Type 0
IsBoundOf s = IsBoundIn (length s.principals) s.slots s.blocks

abbrev pub IsRuleOf : Constraints → Lower → Type 0
IsRuleOf s = IsRuleIn (length s.principals) s.slots s.blocks

abbrev pub IsCheckOf : Constraints → Check → Type 0
IsCheckOf s = IsCheckIn (length s.principals) s.slots s.blocks

-- what every system keeps
pub record IsSystem (s : Constraints) : Type 0 where
  pub few_principals : length s.principals ≤ most_principals
  pub rules : All (IsRuleOf s) s.lower
  pub checks : All (IsCheckOf s) s.checks
  pub few_rules : length s.lower < 2 ^ 32
  pub few_checks : length s.checks < 2 ^ 32
