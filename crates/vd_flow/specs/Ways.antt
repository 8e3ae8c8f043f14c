-- The way of a label: the rules by which a check fails, from a constant to the check's part.
use Rattle.std.specs.Prelude.{◌≡◌, ℕ, ◌^◌, ◌<◌, false, List, [], ◌∷◌, length, slice_index_or, All, IsTrue}
use Rattle.vd_formula.specs.TruthTable.{TruthTable, at, is_subset}
use Rattle.vd_constraints.specs.declared.system.Part.{Part}
use Rattle.vd_constraints.specs.declared.system.Bound.{Bound}
use Rattle.vd_constraints.specs.declared.system.Bound.TheVariants.{Constant, Same, Given, Or}
use Rattle.vd_constraints.specs.declared.system.Lower.{Lower}
use Rattle.vd_constraints.specs.declared.system.Check.{Check}
use Rattle.vd_constraints.specs.declared.labels.Labels.{Labels}
use Rattle.vd_constraints.specs.Systems.{Constraints, IsSystem}
use Rattle.vd_constraints.specs.Satisfies.{HoldsCheck, HoldsRule, IsLabelling}
use Rattle.vd_flow.specs.declared.ways.Step.{Step}
use Rattle.vd_flow.specs.declared.ways.State.{State}

-- A group is a set of principals, by its number. A formula that is false at a group keeps it away; one that is true lets it through.
pub record LetsThrough (formula : TruthTable) (group : ℕ) : Type 0 where
  pub low : group < 2 ^ formula.names
  pub holds : IsTrue (at formula group)

pub record KeepsAway (formula : TruthTable) (group : ℕ) : Type 0 where
  pub low : group < 2 ^ formula.names
  pub fails : at formula group ≡ false

-- `Given f part` keeps a group away where f lets some larger group through that is kept from the part
pub record KeepsLarger (f : TruthTable) (Kept : ℕ → Type 0) (group : ℕ) : Type 0 where
  pub larger : ℕ
  pub within : IsTrue (is_subset group larger)
  pub through : LetsThrough f larger
  pub kept : Kept larger

-- a bound keeps a group away, where these parts keep these groups away
abbrev pub Keeps : (Part → ℕ → Type 0) → Bound → ℕ → Type 0
Keeps Kept (Constant f) group = KeepsAway f group
Keeps Kept (Same part) group = Kept part group
Keeps Kept (Given f part) group = KeepsLarger f (Kept part) group
Keeps Kept (Or f part) group = KeepsAway f group × Kept part group

-- the part and the group of a state
pub record IsState (state : State) (part : Part) (group : ℕ) : Type 0 where
  pub part_is : state.part ≡ part
  pub group_is : state.group ≡ group

-- by its rule a step keeps its group from the rule's part
abbrev pub state_of : Step → State
state_of step = record { part = step.rule.part; group = step.group }

-- Each step keeps its group away by what the step before it keeps away, and the last one keeps this group from this part.
abbrev pub Leads : (Part → ℕ → Type 0) → List Step → Part → ℕ → Type 0
Leads Kept [] part group = Kept part group
Leads Kept (step ∷ steps) part group = Keeps Kept step.rule.bound step.group × Leads (IsState (state_of step)) steps part group

-- before the first step nothing is kept away
abbrev pub Nothing : Part → ℕ → Type 0
Nothing part group = ⊥

-- the rule of a step is the one with its number
pub record IsOfRules (rules : List Lower) (step : Step) : Type 0 where
  pub low : step.number < length rules
  pub is : slice_index_or rules step.number step.rule ≡ step.rule

-- The steps go by rules of the system, from a constant to the part of the check, and keep a group from it that the check's constant lets
-- through.
pub record IsWay (s : Constraints) (check : Check) (steps : List Step) : Type 0 where
  pub rules : All (IsOfRules s.lower) steps
  pub group : ℕ
  pub through : LetsThrough check.constant group
  pub leads : Leads Nothing steps check.part group

-- each labelling at which the rules of a way hold fails its check
abbrev pub WaysMakeChecksFail : Type 0
WaysMakeChecksFail =
    (s : Constraints) (check : Check) (steps : List Step) (l : Labels) →
    IsSystem s → IsLabelling s l → IsWay s check steps → All (λ (step : Step). HoldsRule l step.rule) steps → (HoldsCheck l check → ⊥)
