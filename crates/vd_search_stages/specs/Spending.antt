-- When a search is spent: the budget of no stage does under the shifts that the stage has.
use Rattle.std.specs.Prelude.{◌≡◌, ℕ, ◌+◌, ◌*◌, ◌/◌, ◌<◌, ⊤, Option, List, [], length, min, pos, IfSome, IsTrue}
use Rattle.vd_space.specs.Network.{network_tree}
use Rattle.vd_space_prefix.specs.declared.tables.Tables.{Tables}
use Rattle.vd_search_tree.specs.Trees.{Tree}
use Rattle.vd_search_tree.specs.declared.shift.Shift.{Shift}
use Rattle.vd_search.specs.Answers.{Exceeds}
use Rattle.vd_space.specs.declared.problem.Problem.{Problem}
use Rattle.vd_space.specs.Usual.{usual}
use Rattle.vd_search.specs.Untied.{WhySpent}
use Rattle.vd_search_stages.specs.Selecting.{IsOver}
use Rattle.vd_search_stages.specs.declared.trying.Tried.{Tried}
use Rattle.vd_search_stages.specs.declared.trying.Tried.TheVariants.{Selected, Unended}

-- ---- the parts of a budget

-- what an early search may open: 1000 prefixes, and 4 more for each slot
abbrev pub early_part : Problem → ℕ → ℕ
early_part problem budget = min budget (1000 + 4 * length problem.slots)

-- what a search by arcs may open: 256 prefixes, and one more for each slot
abbrev pub network_part : Problem → ℕ → ℕ
network_part problem budget = min budget (256 + length problem.slots)

-- what a late search may open: the 32nd part
abbrev pub late_part : ℕ → ℕ
late_part budget = budget / 32

-- ---- stages that are spent

-- by arcs under these shifts, more prefixes are within the least cost than the budget has, or are valid where no list is
abbrev pub IsOverByArcs : Problem → List Shift → ℕ → Type 0
IsOverByArcs problem shifts budget = Exceeds (network_tree problem shifts) budget

-- what was found has this property, if it is something
abbrev pub GivesOnly : {X : Type 0} → (Option X → Type 0) → (X → Type 0) → Type 0
GivesOnly {X = X} gives P = (found : Option X) × gives found × IfSome found P

-- The bound of all lists, where the empty prefix is valid and the bound is a number of 32 bits.
pub record IsRootBound (tree : Tree) (most : ℕ) : Type 0 where
  pub valid : IsTrue (tree.valid [])
  pub bound : tree.bound [] ≡ pos most
  pub small : most < 4294967296

abbrev pub HasNoRootBound : Tree → Type 0
HasNoRootBound tree = (most : ℕ) → IsRootBound tree most → ⊥

-- with the prefixes that a walk to the bound of all lists passes over, the budget does not do, or the least cost is another
abbrev pub IsOverByWalk : Problem → List Shift → ℕ → (ℕ → Option (List (List ℕ)) → Type 0) → Type 0
IsOverByWalk problem shifts budget walks_give =
    (most : ℕ) → IsRootBound (network_tree problem shifts) most → GivesOnly (walks_give most)
    (λ passed. WhySpent (network_tree problem shifts) most passed budget)

-- Neither search by arcs ends: by these shifts alone, and where a walk breaks ties.
pub record IsSpentByArcs (problem : Problem) (budget : ℕ) (walks_give : ℕ → Option (List (List ℕ)) → Type 0)
    (shifts : List Shift) : Type 0 where
  pub over : IsOverByArcs problem shifts budget
  pub walked : IsOverByWalk problem shifts budget walks_give

-- Neither budget does by the shifts of uses.
pub record IsOverTwice (problem : Problem) (budget : ℕ) (shifts : List Shift) : Type 0 where
  pub early : IsOver problem shifts (early_part problem budget)
  pub late : IsOver problem shifts (late_part budget)

-- No stage ends: by the usual shifts, by those that an ascent over the uses gives, and by those that one over the arcs gives.
pub record IsSpent (problem : Problem) (budget : ℕ) (uses_give arcs_give : Option (List Shift) → Type 0)
    (walks_give : ℕ → Option (List (List ℕ)) → Type 0) : Type 0 where
  pub usual : IsOver problem (usual problem) budget
  pub uses : GivesOnly uses_give (IsOverTwice problem budget)
  pub arcs : GivesOnly arcs_give (IsSpentByArcs problem (network_part problem budget) walks_give)

-- ---- what is known behind a stage that did not end

abbrev pub IfUnended : Type 0 → Tried → Type 0
IfUnended P (Selected selection) = ⊤
IfUnended P (Unended floor) = P

-- by these tables, if there are some
abbrev pub IsOverBy : Problem → Option Tables → ℕ → Type 0
IsOverBy problem tables budget = IfSome tables (λ t. IsOver problem t.shifts budget)
