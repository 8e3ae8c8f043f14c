-- What shifts come to, all together, by place.
use Rattle.std.specs.Prelude.{ℕ, false, ◌&&◌, ◌==◌, if◌then◌else◌, Option, Some, None, option_map, List, length, slice_get, All, ℤ, pos}
use Rattle.std.specs.Option.{option_map_or}
use Rattle.vd_search_tree.specs.declared.shift.Shift.{Shift}
use Rattle.vd_space.specs.declared.problem.Problem.{Problem}
use Rattle.vd_space.specs.Costs.{total}
use Rattle.vd_space.specs.Bounds.{signed, slot_shift}
use Rattle.vd_space_prefix.specs.Transfers.{IsWithin, by_place}
use Rattle.vd_space_prefix.specs.Tables.{gain_at}
use Rattle.vd_space_tables.specs.declared.space_terms.sums.Rows.{Rows}
use Rattle.vd_space_tables.specs.declared.space_terms.sums.Rows.TheVariants.{Firsts, Seconds, Ends}

-- the row in which a shift counts, where `ends` says at which place an item ends on a side
abbrev pub row_of : {X : Type 0} → (X → ℕ → ℕ) → List X → Rows → Shift → Option ℕ
row_of ends items Firsts shift = if shift.side == 0 then Some shift.at else None
row_of ends items Seconds shift = if shift.side == 0 then None else Some shift.at
row_of ends items Ends shift = option_map (λ item. ends item shift.side) (slice_get items shift.at)

-- what it puts there at a place
abbrev pub part : {X : Type 0} → (X → ℕ → ℕ) → List X → Rows → ℕ → ℕ → Shift → ℤ
part ends items rows row place shift = if option_map_or (λ r. r == row) (row_of ends items rows shift) false && shift.proto == place then signed shift else pos 0

-- of so many rows and places
abbrev pub sums_of : {X : Type 0} → (X → ℕ → ℕ) → List X → Rows → ℕ → ℕ → List Shift → List (List ℤ)
sums_of ends items rows count places shifts = by_place count (λ row. by_place places (λ place. total (part ends items rows row place) shifts))

-- what shifts put on the terms of slots
abbrev pub slot_shifts_of : Problem → List Shift → ℕ → List (List ℤ)
slot_shifts_of problem shifts places = by_place (length problem.slots) (λ slot. by_place places (λ p. total (slot_shift problem slot p) shifts))

-- 2^32: an amount is a number of 32 bits
abbrev pub AreSmallShifts : List Shift → Type 0
AreSmallShifts shifts = All (λ shift. IsWithin 4294967296 (signed shift)) shifts

-- 2^49: shifts are at most 2^17, each of less than 2^32
abbrev pub AreSmallSums : List (List ℤ) → Type 0
AreSmallSums sums = (row place : ℕ) → IsWithin 562949953421312 (gain_at sums row place)
