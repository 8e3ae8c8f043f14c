-- What a search by arcs answers on a path that is the problem's, and which prefixes begin no list of so little cost.
use Rattle.std.proofs.Common.{◌≡◌, ℕ, suc, List, sym, subst, pos}
use Rattle.std.specs.List.{All}
use Rattle.vd_search_tree.specs.Trees.{AtLeast}
use Rattle.vd_search.specs.Answers.{Answers}
use Rattle.vd_search.specs.declared.answers.Answer.{Answer}
use Rattle.vd_space.specs.declared.problem.Problem.{Problem}
use Rattle.vd_space.specs.Spaces.{IsProblem}
use Rattle.vd_space.specs.Network.{network_tree}
use Rattle.vd_cost_network_prefix.specs.declared.made.NetworkTables.{NetworkTables}
use Rattle.vd_cost_network_bound.specs.Ascents.{IsBeyond}
use Rattle.vd_search_stages.specs.Network.{CanUseArcs, Tells}
use Rattle.vd_search_stages.specs.Selecting.{Selects}
use Rattle.vd_search_stages.specs.declared.selecting.Selection.{Selection}

-- an answer on a path that is the problem's is a selection
pub selected : (problem p : Problem) (tables t : NetworkTables) (budget : ℕ) (found : Answer) (selection : Selection) → p ≡ problem → t ≡ tables → IsProblem problem → CanUseArcs problem tables
    → Answers (network_tree p t.shifts) budget found → Tells tables found selection → Selects problem budget selection
selected problem p tables t budget found selection same_problem same_tables holds can answers tells =
    tells problem budget holds can (subst (λ (x : NetworkTables). Answers (network_tree problem x.shifts) budget found) same_tables (subst (λ (q : Problem). Answers (network_tree q t.shifts) budget found) same_problem answers))

-- what is beyond the cost is so in the tree of any shifts
pub all_beyond : (problem p : Problem) (t : NetworkTables) (most : ℕ) (passed : List (List ℕ)) → p ≡ problem → All (IsBeyond problem most) passed → All (AtLeast (network_tree p t.shifts) (pos (suc most))) passed
all_beyond problem p t most passed same all = subst (λ (q : Problem). All (AtLeast (network_tree q t.shifts) (pos (suc most))) passed) (sym same) (λ k d lt. all k d lt t.shifts)
