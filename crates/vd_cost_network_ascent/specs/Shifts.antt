-- The shifts of arcs that come to amounts.
use Rattle.std.specs.Prelude.{◌≡◌, ℕ, zero, suc, ◌<◌, ◌≤◌, Bool, true, false, List, [], ◌∷◌, ◌++◌, slice_index_or, ℤ, pos, negsuc, Vec}
use Rattle.std.specs.List.{flat_map, range_with_len}
use Rattle.vd_cost_network_dual.specs.declared.nets.Nets.{Nets}
use Rattle.vd_cost_network_dual.specs.Rows.{row_of}
use Rattle.vd_search_tree.specs.declared.shift.Shift.{Shift}
use Rattle.vd_space.specs.Shifts.{AreShiftsOf}

-- ---- the shifts that come to amounts: one for each that is not 0

abbrev pub shift_by : ℕ → ℕ → ℕ → Bool → ℕ → Shift
shift_by at side place add amount = record { at = at; side = side; proto = place; add = add; amount = amount }

abbrev pub shift_to : ℕ → ℕ → ℕ → ℤ → List Shift
shift_to at side place (pos zero) = []
shift_to at side place (pos (suc n)) = shift_by at side place true (suc n) ∷ []
shift_to at side place (negsuc n) = shift_by at side place false (suc n) ∷ []

-- at one end of an arc, by place
abbrev pub row_shifts : ℕ → ℕ → List ℤ → ℕ → List Shift
row_shifts at side row places = flat_map (λ place. shift_to at side place (slice_index_or row place (pos 0))) (range_with_len 0 places)

-- at both ends of an arc, by the amounts at the first and the second ends of all arcs
abbrev pub arc_shifts : (ℕ → List ℤ) → (ℕ → List ℤ) → ℕ → ℕ → List Shift
arc_shifts firsts seconds places at = row_shifts at 0 (firsts at) places ++ row_shifts at 1 (seconds at) places

-- of so many arcs
abbrev pub net_shifts : (ℕ → List ℤ) → (ℕ → List ℤ) → ℕ → ℕ → List Shift
net_shifts firsts seconds places arcs = flat_map (arc_shifts firsts seconds places) (range_with_len 0 arcs)

-- the shifts of so many arcs that come to amounts at so many places of each end
abbrev pub shifts_by : Nets → ℕ → ℕ → List Shift
shifts_by nets places arcs = net_shifts (row_of nets.firsts) (row_of nets.seconds) places arcs

-- the amount of an arc, by the amounts at an end of all arcs
abbrev pub amount_in : {Y Z : Type 0} → Vec (Vec ℤ Z) Y → ℕ → ℕ → ℤ
amount_in rows at place = slice_index_or (row_of rows at) place (pos 0)

-- what is done is that, and where it is not done nothing is said
abbrev pub Adds : List Shift → List Shift → List Shift → Bool → Type 0
Adds more before after done = done ≡ true → after ≡ before ++ more

-- ---- what a step adds to a list, however many arcs and protocols there are

-- at most one, of an arc at a place
abbrev pub Puts : ℕ → ℕ → List Shift → List Shift → Type 0
Puts at place before after = (count choices : ℕ) → at < count → place < choices → AreShiftsOf count choices before → AreShiftsOf count choices after

-- some of an arc at the first places
abbrev pub PutsRow : ℕ → ℕ → List Shift → List Shift → Type 0
PutsRow at places before after = (count choices : ℕ) → at < count → places ≤ choices → AreShiftsOf count choices before → AreShiftsOf count choices after
