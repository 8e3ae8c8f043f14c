-- Shifts whose amounts are numbers of 32 bits.
use Rattle.std.proofs.Common.{◌≡◌, ℕ, zero, suc, ◌<◌, Bool, true, false, List, [], ◌∷◌, ◌++◌, length}
use Rattle.std.specs.Prelude.{slice_index_or}
use Rattle.std.specs.List.{AllByRecursion}
use Rattle.vd_search_tree.specs.declared.shift.Shift.{Shift}
use Rattle.vd_space_api.specs.declared.space_shifts.ledger.Ledger.{Ledger}
use Rattle.vd_space_api.specs.Rows.{amounts_of}
use Rattle.vd_space_api.specs.Terms.{row_at}
use Rattle.vd_space_api.specs.Ledger.{one_shift, made, with_taken, with_given, AreSmall, AreSmallTerms, IsSmallShift}
use Rattle.vd_space_api.proofs.Handing.{amounts_small}

joined : (xs ys : List Shift) → AllByRecursion IsSmallShift xs → AllByRecursion IsSmallShift ys → AllByRecursion IsSmallShift (xs ++ ys)
joined [] ys one two = two
joined (x ∷ xs) ys one two = (one.0, joined xs ys one.1 two)

one_small : (at side : ℕ) (add : Bool) (p n : ℕ) → n < 4294967296 → AllByRecursion IsSmallShift (one_shift at side add p n)
one_small at side add p zero low = tt
one_small at side add p (suc n) low = (low, tt)

made_small : (at side : ℕ) (add : Bool) (amounts : List ℕ) → AreSmall amounts → (n : ℕ) → AllByRecursion IsSmallShift (made at side add amounts n)
made_small at side add amounts small zero = tt
made_small at side add amounts small (suc n) = joined (made at side add amounts n) (one_shift at side add n (slice_index_or amounts n 0)) (made_small at side add amounts small n) (one_small at side add n (slice_index_or amounts n 0) (small n))

-- what is handed on is small, where the terms and what is given are
pub handed_small : (at source target : ℕ) (given : List ℕ) (ledger : Ledger) → AreSmallTerms ledger.terms → AreSmall given → AllByRecursion IsSmallShift ledger.shifts
    → AllByRecursion IsSmallShift (with_given at source given (with_taken at target ledger)).shifts
handed_small at source target given ledger terms small so_far =
    let taken = amounts_of (row_at ledger.terms target) in
    joined (ledger.shifts ++ made at 1 false taken (length taken)) (made at 0 true given (length given))
    (joined ledger.shifts (made at 1 false taken (length taken)) so_far (made_small at 1 false taken (amounts_small ledger.terms target terms) (length taken)))
    (made_small at 0 true given small (length given))
