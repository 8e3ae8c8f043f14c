-- A row of sums of shifts, and its amounts.
use Rattle.std.proofs.Common.{◌≡◌, ℕ, ◌<◌, ◌≤◌, List, length, get_or, refl, sym, subst, ℤ, pos}
use Rattle.vd_search_tree.specs.declared.shift.Shift.{Shift}
use Rattle.vd_space.specs.Costs.{total}
use Rattle.vd_space_prefix.specs.Transfers.{IsWithin, by_place}
use Rattle.vd_space_tables.specs.declared.space_terms.sums.Rows.{Rows}
use Rattle.vd_space_tables.specs.Sums.{AreSmallShifts}
use Rattle.vd_space_tables.proofs.Front.{part_within, place_within, whole_within, row_is as any_row_is}
use Rattle.vd_cost_network_tables.specs.declared.raw.RawArc.{RawArc}
use Rattle.vd_cost_network_tables.specs.Sums.{part, side_of, sums_of}

pub row_is : (arcs : List RawArc) (rows : Rows) (count places : ℕ) (shifts : List Shift) (sums : List (List ℤ)) (r : ℕ) (line d : List ℤ) → sums ≡ sums_of arcs rows count places shifts → r < count → line ≡ get_or sums r d
    → line ≡ by_place places (λ place. total (part arcs rows r place) shifts)
row_is arcs rows count places shifts sums r line d are low at = any_row_is side_of arcs arcs rows count places places shifts sums r line d refl are low refl at

pub row_small : (arcs : List RawArc) (rows : Rows) (places : ℕ) (shifts : List Shift) (r : ℕ) (line : List ℤ) → length shifts ≤ 131072 → AreSmallShifts shifts → line ≡ by_place places (λ place. total (part arcs rows r place) shifts)
    → (v : ℕ) → IsWithin 562949953421312 (get_or line v (pos 0))
row_small arcs rows places shifts r line few small is v =
    subst (λ (xs : List ℤ). IsWithin 562949953421312 (get_or xs v (pos 0))) (sym is)
    (place_within 562949953421312 places (λ place. total (part arcs rows r place) shifts) v (λ place low. whole_within (part arcs rows r place) shifts few small (part_within side_of arcs rows r place)))
