-- The walk back from the part of a check.
use Rattle.std.specs.Prelude.{◌≡◌, ℕ, ◌<◌, List, length, slice_index_or, All}
use Rattle.vd_constraints.specs.declared.system.Part.{Part}
use Rattle.vd_constraints.specs.declared.system.Lower.{Lower}
use Rattle.vd_constraints.specs.declared.system.Check.{Check}
use Rattle.vd_flow.specs.declared.ways.Step.{Step}
use Rattle.vd_flow.specs.declared.ways.State.{State}
use Rattle.vd_flow.specs.declared.ways.Found.{Found}
use Rattle.vd_flow.specs.declared.ways.Ground.{Ground}
use Rattle.vd_flow.specs.declared.ways.Ground.TheVariants.{Constant, Kept}
use Rattle.vd_flow.specs.Ways.{IsOfRules, IsState, Keeps, Leads, LetsThrough, Nothing}

-- what a basis says is kept from whom
abbrev pub IsGround : Ground → Part → ℕ → Type 0
IsGround Constant = Nothing
IsGround (Kept state) = IsState state

-- the rule is the one of these with its number, and keeps the group of the state from its part, on its basis
pub record IsFound (rules : List Lower) (state : State) (found : Found) : Type 0 where
  pub low : found.number < length rules
  pub is : slice_index_or rules found.number found.rule ≡ found.rule
  pub part_is : found.rule.part ≡ state.part
  pub keeps : Keeps (IsGround found.basis) found.rule.bound state.group

-- the steps go by these rules from a constant to the state
pub record IsWalk (rules : List Lower) (end : State) (steps : List Step) : Type 0 where
  pub among : All (IsOfRules rules) steps
  pub leads : Leads Nothing steps end.part end.group

-- the check lets a group through that is kept from its part
pub record IsEnd (check : Check) (end : State) : Type 0 where
  pub part_is : end.part ≡ check.part
  pub through : LetsThrough check.constant end.group
