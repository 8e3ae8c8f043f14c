-- What is known behind stages that did not end.
use Rattle.std.proofs.Common.{◌≡◌, ℕ, Option, Some, None, Result, Ok, Err, List, sym, ap, ◌∙◌, subst, arith}
use Rattle.std.proofs.lemmas.Int.{ints}
use Rattle.std.specs.Prelude.{IfNone, IfOk}
use Rattle.vd_space.specs.Network.{network_tree}
use Rattle.vd_cost_network_prefix.specs.declared.made.NetworkTables.{NetworkTables}
use Rattle.vd_search_tree.specs.Trees.{Tree}
use Rattle.vd_search_tree.specs.declared.shift.Shift.{Shift}
use Rattle.vd_space.specs.declared.problem.Problem.{Problem}
use Rattle.vd_search.specs.Untied.{WhySpent}
use Rattle.vd_search_stages.specs.Spending.{GivesOnly, IfUnended, IsOverByWalk, IsRootBound, IsSpentByArcs, early_part, network_part}
use Rattle.vd_search_stages.specs.declared.trying.Tried.{Tried}
use Rattle.vd_search_stages.specs.declared.trying.Tried.TheVariants.{Selected, Unended}

-- what is known in any case is known where a stage did not end
unended : (P : Type 0) (tried : Tried) → P → IfUnended P tried
unended P (Selected selection) p = tt
unended P (Unended floor) p = p

pub if_unended : {E : Type 0} (P : Type 0) (result : Result Tried E) → P → IfOk result (IfUnended P)
if_unended P (Ok tried) p = unended P tried p
if_unended P (Err cause) p = tt

-- ---- a search by arcs

-- the part of a search by arcs is the same of the early part as of the whole budget
same_part : (problem : Problem) (budget : ℕ) → network_part problem (early_part problem budget) ≡ network_part problem budget
same_part problem budget = omega arith

pub network_of_early : (problem : Problem) (gives : Option (List Shift) → Type 0) (walks : ℕ → Option (List (List ℕ)) → Type 0) (early budget : ℕ) → early ≡ early_part problem budget
    → GivesOnly gives (IsSpentByArcs problem (network_part problem early) walks) → GivesOnly gives (IsSpentByArcs problem (network_part problem budget) walks)
network_of_early problem gives walks early budget is over =
    subst (λ (n : ℕ). GivesOnly gives (IsSpentByArcs problem n walks)) (ap (network_part problem) is ∙ same_part problem budget) over

-- why it is spent, on a path that is the problem's
pub why_on_path : (problem p : Problem) (tables t : NetworkTables) (most : ℕ) (passed : List (List ℕ)) (budget : ℕ) → p ≡ problem → t ≡ tables → WhySpent (network_tree p t.shifts) most passed budget → WhySpent (network_tree problem tables.shifts) most passed budget
why_on_path problem p tables t most passed budget same_problem same_tables why =
    subst (λ (x : NetworkTables). WhySpent (network_tree problem x.shifts) most passed budget) same_tables (subst (λ (q : Problem). WhySpent (network_tree q t.shifts) most passed budget) same_problem why)

-- ---- a walk to the bound of all lists

same_most : (tree : Tree) (one two : ℕ) → IsRootBound tree one → IsRootBound tree two → one ≡ two
same_most tree one two first second = let a = first.bound in let b = second.bound in omega (arith, ints, a, b)

-- of the walk that was made to be that to the bound
pub walk_to_bound : {T E : Type 0} (problem p : Problem) (tables t : NetworkTables) (walks : ℕ → Option (List (List ℕ)) → Type 0) (most budget : ℕ) (result : Result (Option T) E) → p ≡ problem → t ≡ tables
    → IsRootBound (network_tree p t.shifts) most
    → IfOk result (λ found. IfNone found (GivesOnly (walks most) (λ passed. WhySpent (network_tree problem tables.shifts) most passed budget)))
    → IfOk result (λ found. IfNone found (IsOverByWalk problem tables.shifts budget walks))
walk_to_bound problem p tables t walks most budget (Ok None) same_problem same_tables root over = λ other is.
    let here = subst (λ (x : NetworkTables). IsRootBound (network_tree problem x.shifts) most) same_tables (subst (λ (q : Problem). IsRootBound (network_tree q t.shifts) most) same_problem root) in
    subst (λ (n : ℕ). GivesOnly (walks n) (λ passed. WhySpent (network_tree problem tables.shifts) n passed budget)) (same_most (network_tree problem tables.shifts) most other here is) over
walk_to_bound problem p tables t walks most budget (Ok (Some found)) same_problem same_tables root over = tt
walk_to_bound problem p tables t walks most budget (Err cause) same_problem same_tables root over = tt

-- there is no such walk
pub no_walk : (problem p : Problem) (tables t : NetworkTables) (walks : ℕ → Option (List (List ℕ)) → Type 0) (budget : ℕ) → p ≡ problem → t ≡ tables
    → ((most : ℕ) → IsRootBound (network_tree p t.shifts) most → ⊥) → IsOverByWalk problem tables.shifts budget walks
no_walk problem p tables t walks budget same_problem same_tables none = λ most root.
    absurd (none most (subst (λ (x : NetworkTables). IsRootBound (network_tree p x.shifts) most) (sym same_tables) (subst (λ (q : Problem). IsRootBound (network_tree q tables.shifts) most) (sym same_problem) root)))
