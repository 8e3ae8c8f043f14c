-- The choice of a problem, and how many prefixes a search must be let open to find it.
use Rattle.std.specs.Prelude.{◌≡◌, ℕ, Option, Some, None, List, []}
use Rattle.vd_search_tree.specs.Trees.{IsChoice, IsEmpty, count_valid}
use Rattle.vd_space.specs.declared.problem.Problem.{Problem}
use Rattle.vd_space.specs.Costs.{cost}
use Rattle.vd_space.specs.Spaces.{tree_of}
use Rattle.vd_space.specs.Usual.{firm}

-- the valid list of least cost, and the first of these in order; or there is no valid list
abbrev pub IsChosen : Problem → Option (List ℕ) → Type 0
IsChosen problem (Some list) = IsChoice (tree_of problem []) list
IsChosen problem None = IsEmpty (tree_of problem [])

-- the function that gives each problem its choice
pub record ChoiceOutcomes : Type 0 where
  pub choose : Problem → Option (List ℕ)
  pub choose_is : (problem : Problem) → IsChosen problem (choose problem)

-- with this budget a search is sure to find the choice, or that there is none
abbrev pub needed : Problem → Option (List ℕ) → ℕ
needed problem (Some list) = firm problem (cost problem list)
needed problem None = count_valid (tree_of problem [])

-- Each problem has one choice, and no second.
pub record HasOneChoice (problem : Problem) : Type 0 where
  pub choice : Option (List ℕ)
  pub is : IsChosen problem choice
  pub single : (other : Option (List ℕ)) → IsChosen problem other → other ≡ choice
