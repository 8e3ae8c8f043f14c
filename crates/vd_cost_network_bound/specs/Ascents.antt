-- What a walk shows of a prefix.
use Rattle.std.specs.Prelude.{ℕ, suc, List, pos}
use Rattle.vd_search_tree.specs.Trees.{AtLeast}
use Rattle.vd_search_tree.specs.declared.shift.Shift.{Shift}
use Rattle.vd_space.specs.declared.problem.Problem.{Problem}
use Rattle.vd_space.specs.Network.{network_tree}

-- no list of at most that cost begins so, under whatever shifts
abbrev pub IsBeyond : Problem → ℕ → List ℕ → Type 0
IsBeyond problem most prefix = (shifts : List Shift) → AtLeast (network_tree problem shifts) (pos (suc most)) prefix
