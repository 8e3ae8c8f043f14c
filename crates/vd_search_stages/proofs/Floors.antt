-- What each valid list costs at least.
use Rattle.std.proofs.Common.{◌≡◌, ℕ, [], sym, subst, pos, ◌≤ℤ◌}
use Rattle.vd_search.specs.Answers.{IsFloor}
use Rattle.vd_space.specs.declared.problem.Problem.{Problem}
use Rattle.vd_space.specs.Costs.{cost}
use Rattle.vd_space.specs.Spaces.{IsProblem, tree_of}
use Rattle.vd_space.proofs.Front.{high_whole, tree_bounded}
use Rattle.vd_space_prefix.specs.declared.tables.Tables.{Tables}
use Rattle.vd_space.specs.Network.{network_tree}
use Rattle.vd_space.proofs.Front.{network_high_whole, network_tree_bounded}
use Rattle.vd_cost_network_prefix.specs.declared.made.NetworkTables.{NetworkTables}
use Rattle.vd_search_stages.specs.Selecting.{CostsAtLeast}
use Rattle.vd_search_stages.specs.Spending.{IsRootBound}

-- in the tree of a path that is the problem's no whole list costs less
pub floor_on_path : (problem p : Problem) (t : Tables) (floor : ℕ) → p ≡ problem → IsProblem problem → CostsAtLeast problem floor → IsFloor (tree_of p t.shifts) floor
floor_on_path problem p t floor same holds least = subst (λ (q : Problem). IsFloor (tree_of q t.shifts) floor) (sym same) (λ bounded list whole.
    subst (λ c. pos floor ≤ℤ c) (sym (high_whole problem holds t.shifts list whole.full whole.valid)) (least list (record { full = whole.full; valid = whole.valid })))

-- the bound by arcs of the empty prefix is at most the cost of each valid list
below_costs : (problem : Problem) (t : NetworkTables) (floor : ℕ) → IsProblem problem → (network_tree problem t.shifts).bound [] ≡ pos floor → CostsAtLeast problem floor
below_costs problem t floor holds is list whole =
    let low = (network_tree_bounded problem holds t.shifts).below [] list (record { full = whole.full; valid = whole.valid }) in
    subst (λ b. b ≤ℤ cost problem list) is (subst (λ c. (network_tree problem t.shifts).bound [] ≤ℤ c) (network_high_whole problem holds t.shifts list whole.full whole.valid) low)

-- the bound of all lists is at most the cost of each
pub floor_of_all : (problem p : Problem) (t : NetworkTables) (floor : ℕ) → p ≡ problem → IsProblem problem → IsRootBound (network_tree p t.shifts) floor → CostsAtLeast problem floor
floor_of_all problem p t floor same holds root = below_costs problem t floor holds (subst (λ (q : Problem). (network_tree q t.shifts).bound [] ≡ pos floor) same root.bound)

-- the bound of the empty prefix is at most the cost of each valid list
below_costs_of_uses : (problem : Problem) (t : Tables) (floor : ℕ) → IsProblem problem → (tree_of problem t.shifts).bound [] ≡ pos floor → CostsAtLeast problem floor
below_costs_of_uses problem t floor holds is list whole =
    let low = (tree_bounded problem holds t.shifts).below [] list (record { full = whole.full; valid = whole.valid }) in
    subst (λ b. b ≤ℤ cost problem list) is (subst (λ c. (tree_of problem t.shifts).bound [] ≤ℤ c) (high_whole problem holds t.shifts list whole.full whole.valid) low)

-- and so is that of all lists under shifts of uses
pub floor_of_uses : (problem p : Problem) (t : Tables) (floor : ℕ) → p ≡ problem → IsProblem problem → IsRootBound (tree_of p t.shifts) floor → CostsAtLeast problem floor
floor_of_uses problem p t floor same holds root = below_costs_of_uses problem t floor holds (subst (λ (q : Problem). (tree_of q t.shifts).bound [] ≡ pos floor) same root.bound)
