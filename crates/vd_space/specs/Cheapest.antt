-- The choice of protocols for a problem, by validity and costs alone.
use Rattle.std.specs.Prelude.{◌≡◌, ℕ, List, length, map, IsTrue, ℤ, ◌≤ℤ◌}
use Rattle.vd_base.specs.declared.protocols.Proto.{Proto}
use Rattle.vd_search_tree.specs.Trees.{InOrder}
use Rattle.vd_space.specs.declared.problem.Problem.{Problem}
use Rattle.vd_space.specs.Validity.{is_valid, protocol}
use Rattle.vd_space.specs.Costs.{cost}

-- a protocol for each slot, and valid
pub record IsValid (problem : Problem) (list : List ℕ) : Type 0 where
  pub whole : length list ≡ length problem.slots
  pub valid : IsTrue (is_valid problem list)

-- A valid assignment: a protocol for each slot, which are those at the places of a valid list.
pub record IsAssignment (problem : Problem) (protocols : List Proto) : Type 0 where
  pub places : List ℕ
  pub is_valid : IsValid problem places
  pub named : protocols ≡ map (protocol problem) places

-- what a valid assignment costs
abbrev pub cost_of : (problem : Problem) (protocols : List Proto) → IsAssignment problem protocols → ℤ
cost_of problem protocols is = cost problem is.places

-- A valid assignment stands before another in order: at the first slot at which they differ, its protocol is the earlier one of all.
abbrev pub ComesFirst : (problem : Problem) (protocols others : List Proto) → IsAssignment problem protocols
    → IsAssignment problem others → Type 0
ComesFirst problem protocols others is are = InOrder is.places are.places

-- the valid assignment of least cost, and among these the first in order
pub record IsCheapestAssignment (problem : Problem) (protocols : List Proto) : Type 0 where
  pub valid : IsAssignment problem protocols
  pub least : (others : List Proto) (are : IsAssignment problem others) → cost_of problem protocols valid ≤ℤ cost_of problem others are
  pub first : (others : List Proto) (are : IsAssignment problem others) → cost_of problem others are ≡ cost_of problem protocols valid
      → ComesFirst problem protocols others valid are

-- The same of the places: the valid list of least cost, and among these the first in order.
pub record IsCheapest (problem : Problem) (list : List ℕ) : Type 0 where
  pub is_valid : IsValid problem list
  pub least : (other : List ℕ) → IsValid problem other → cost problem list ≤ℤ cost problem other
  pub first : (other : List ℕ) → IsValid problem other → cost problem other ≡ cost problem list → InOrder list other
