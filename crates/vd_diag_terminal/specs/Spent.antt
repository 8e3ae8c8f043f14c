-- What is said of a search that needs more than its budget.
use Rattle.std.specs.Prelude.{◌≡◌, ℕ, Bool, true, false, pos, List, [], codes, decimal}
use Rattle.vd_space.specs.declared.problem.Problem.{Problem}
use Rattle.vd_space.specs.Bounds.{low}
use Rattle.vd_space.specs.Validity.{is_valid}
use Rattle.vd_diag.specs.Files.{spent_sentence}
use Rattle.vd_diag.specs.Parts.{three}

-- with the bound of all lists of protocols
abbrev pub search_sentence : ℕ → ℕ → List ℕ
search_sentence budget bound = three (spent_sentence budget) (codes "; no choice costs less than ") (decimal bound)

-- How many prefixes were opened; and unless a rule fails whatever the slots stand at, the bound of the empty prefix, below
-- which no valid list costs.
abbrev pub TellsBound : Bool → Problem → ℕ → List ℕ → Type 0
TellsBound true problem budget text = (bound : ℕ) × (pos bound ≡ low problem []) × (text ≡ search_sentence budget bound)
TellsBound false problem budget text = text ≡ spent_sentence budget

abbrev pub TellsSearch : Problem → ℕ → List ℕ → Type 0
TellsSearch problem budget text = TellsBound (is_valid problem []) problem budget text
