-- The usual shifts: each slot hands what it must cost on to the slots that its values come from.
use Rattle.std.specs.Prelude.{ℕ, zero, suc, ◌+◌, Bool, true, false, if◌then◌else◌, Option, Some, None, List, [], ◌∷◌, ◌++◌, length, ℤ, pos, negsuc}
use Rattle.vd_search_tree.specs.Trees.{Tree, count_within}
use Rattle.vd_space.specs.declared.problem.Problem.{Problem}
use Rattle.vd_space.specs.declared.problem.Use.{Use}
use Rattle.vd_search_tree.specs.declared.shift.Shift.{Shift}
use Rattle.vd_space.specs.Validity.{protocols, is_candidate}
use Rattle.vd_space.specs.Bounds.{least_at, low, shifted_one, shifted_use}
use Rattle.vd_space.specs.Spaces.{tree_of}

-- a shift of the amount, where there is one above 0
abbrev pub with_amount : Option ℤ → (ℕ → Shift) → List Shift → List Shift
with_amount None shift shifts = shifts
with_amount (Some (negsuc n)) shift shifts = shifts
with_amount (Some (pos zero)) shift shifts = shifts
with_amount (Some (pos (suc n))) shift shifts = shifts ++ shift (suc n) ∷ []

abbrev pub shift_to : ℕ → ℕ → ℕ → Bool → ℕ → Shift
shift_to at side p add amount = record { at = at; side = side; proto = p; add = add; amount = amount }

-- what the target must cost at p, after the shifts so far, goes on the use
abbrev pub from_target : Problem → ℕ → Use → ℕ → List Shift → List Shift
from_target problem at u p shifts =
    if is_candidate problem u.target.0 p then with_amount ((shifted_one problem shifts u.target.0).value p) (shift_to at 1 p false) shifts else shifts

-- what the use must cost from p, whatever the target stands at, goes on the source
abbrev pub to_source : Problem → ℕ → Use → ℕ → List Shift → List Shift
to_source problem at u p shifts =
    if is_candidate problem u.source.0 p then with_amount (least_at problem [] u.target.0 ((shifted_use problem shifts at u).value p)) (shift_to at 0 p true) shifts else shifts

-- for each protocol of the list in order
abbrev pub in_list_order : (ℕ → List Shift → List Shift) → ℕ → List Shift → List Shift
in_list_order step zero shifts = shifts
in_list_order step (suc n) shifts = step n (in_list_order step n shifts)

-- the uses from the last to the first
abbrev pub usual_from : Problem → ℕ → List Use → List Shift
usual_from problem at [] = []
usual_from problem at (u ∷ us) =
    let n = length (protocols problem) in
    in_list_order (to_source problem at u) n (in_list_order (from_target problem at u) n (usual_from problem (at + 1) us))

abbrev pub usual : Problem → List Shift
usual problem = usual_from problem 0 problem.uses

-- ---- counts at a cost

-- the number of valid prefixes with the first bound at most the cost, and with the greater of both bounds under the usual shifts
abbrev pub low_tree : Problem → Tree
low_tree problem = record (tree_of problem []) { bound = low problem }

abbrev pub hard : Problem → ℤ → ℕ
hard problem cost = count_within (low_tree problem) cost

abbrev pub firm : Problem → ℤ → ℕ
firm problem cost = count_within (tree_of problem (usual problem)) cost
