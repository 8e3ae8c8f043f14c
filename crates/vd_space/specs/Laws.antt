-- What bounds and prefixes keep.
use Rattle.std.specs.Prelude.{◌≡◌, ◌&&◌, IsTrue, List, ◌++◌, length, ℕ, ℤ, ◌≤ℤ◌, ◌+ℤ◌}
use Rattle.vd_space.specs.declared.problem.Problem.{Problem}
use Rattle.vd_space.specs.Validity.{is_valid}
use Rattle.vd_space.specs.Costs.{One, Pair, cost}
use Rattle.vd_space.specs.Bounds.{least_sum}
use Rattle.vd_space.specs.Growth.{extends, growth, with_choice}

-- the bound of a prefix is at most the cost of each whole valid list that it begins
abbrev pub IsBelowCosts : Problem → (List ℕ → ℤ) → Type 0
IsBelowCosts problem bound =
    (prefix rest : List ℕ) → length (prefix ++ rest) ≡ length problem.slots → IsTrue (is_valid problem (prefix ++ rest)) → bound prefix ≤ℤ cost problem (prefix ++ rest)

-- the bound of a whole valid list is its cost
abbrev pub EndsInCost : Problem → (List ℕ → ℤ) → Type 0
EndsInCost problem bound = (list : List ℕ) → length list ≡ length problem.slots → IsTrue (is_valid problem list) → bound list ≡ cost problem list

-- a prefix with one choice more is valid where the prefix is and what names the decided slot is
abbrev pub ValidGrows : Problem → Type 0
ValidGrows problem = (prefix : List ℕ) (choice : ℕ) → is_valid problem (with_choice prefix choice) ≡ (is_valid problem prefix && extends problem prefix choice)

-- a sum of least values grows by what names the decided slot
abbrev pub SumGrows : Problem → List One → List Pair → Type 0
SumGrows problem ones pairs =
    (prefix : List ℕ) (choice : ℕ) → least_sum problem ones pairs (with_choice prefix choice) ≡ least_sum problem ones pairs prefix +ℤ growth problem ones pairs prefix choice
