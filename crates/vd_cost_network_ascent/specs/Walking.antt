-- What a walk finds.
use Rattle.std.specs.Prelude.{◌≡◌, ℕ, ◌≤◌, Bool, ◌&&◌, if◌then◌else◌, IfSome, nat_lt, List, [], ◌∷◌, ◌++◌, length, take, ℤ}
use Rattle.vd_space.specs.Network.{network_tree}
use Rattle.vd_cost_network_prefix.specs.declared.path.NetworkPath.{NetworkPath}
use Rattle.vd_search_tree.specs.Trees.{Tree, is_within}
use Rattle.vd_space.specs.declared.problem.Problem.{Problem}
use Rattle.vd_space_prefix.specs.Tables.{AreListed}
use Rattle.vd_cost_network_ascent.specs.declared.refutation.Refutation.{Refutation}
use Rattle.vd_cost_network_ascent.specs.declared.walk.Tested.{Tested}
use Rattle.vd_cost_network_ascent.specs.declared.walk.Tested.TheVariants.{Open, Refuted}
use Rattle.vd_space.specs.Shifts.{AreArcShifts}

-- a prefix of a problem's lists that is not empty, and some shifts of its arcs
pub record IsRefutation (problem : Problem) (found : Refutation) : Type 0 where
  pub some : 1 ≤ length found.prefix
  pub room : length found.prefix ≤ length problem.slots
  pub listed : AreListed problem found.prefix
  pub shifted : 1 ≤ length found.shifts
  pub shifts : AreArcShifts problem found.shifts

-- ---- steps of a walk

-- the tree that it goes down, and the choices that it made
abbrev pub tree : NetworkPath → Tree
tree path = network_tree path.problem.now path.by_arcs.now.shifts

abbrev pub made : NetworkPath → List ℕ
made path = take path.depth path.room

-- there is such a slot and such a choice, and with it the prefix is valid and its bound within the aim
abbrev pub can_enter : Tree → ℤ → List ℕ → ℕ → Bool
can_enter tree most prefix choice = nat_lt (length prefix) tree.slots && nat_lt choice tree.choices && is_within tree most (prefix ++ choice ∷ [])

abbrev pub entered : Bool → List ℕ → ℕ → List ℕ
entered can prefix choice = if can then prefix ++ choice ∷ [] else prefix

-- the last choice stands where the test leaves it open; else it is taken back, and what is found is a refutation
abbrev pub TestsLast : Problem → List ℕ → List ℕ → Tested → Type 0
TestsLast problem before after Open = after ≡ before
TestsLast problem before after (Refuted found) = ((front : List ℕ) (last : ℕ) → before ≡ front ++ last ∷ [] → after ≡ front) × IfSome found (IsRefutation problem)
