-- The cells of arcs under shifts.
use Rattle.std.proofs.Common.{◌≡◌, ℕ, zero, suc, ◌+◌, ◌-◌, ◌<◌, ◌≤◌, Bool, Option, Some, None, List, [], ◌∷◌, length, map, get_or, sym, ap, ap₂, ◌∙◌, subst, arith, inl, inr, slice_get, ℤ, pos, ◌+ℤ◌, ◌-ℤ◌, option_map}
use Rattle.std.specs.Option.{option_map_or}
use Rattle.std.proofs.lemmas.Int.{ints}
use Rattle.std.proofs.lemmas.List.{get_or-map, length-map}
use Rattle.vd_search_tree.specs.declared.shift.Shift.{Shift}
use Rattle.vd_space.specs.declared.problem.Problem.{Problem}
use Rattle.vd_space.specs.Costs.{Pair, total}
use Rattle.vd_space.specs.Bounds.{use_shift}
use Rattle.vd_space_prefix.specs.Transfers.{by_place}
use Rattle.vd_space_prefix.proofs.Front.{at_place, size_by_place}
use Rattle.vd_space_tables.proofs.Front.{same_by_place, sides_together}
use Rattle.vd_space.specs.Validity.{protocols}
use Rattle.vd_space.specs.Points.{Switch, switches}
use Rattle.vd_space.specs.Arcs.{arcs}
use Rattle.vd_space.specs.Network.{network_pair, network_pairs}
use Rattle.vd_space.proofs.Front.{at_either}
use Rattle.vd_cost_network_prefix.specs.declared.made.ArcTable.{ArcTable}
use Rattle.vd_cost_network_prefix.specs.States.{settings}
use Rattle.vd_cost_network_tables.specs.declared.raw.RawArc.{RawArc}
use Rattle.vd_space_tables.specs.declared.space_terms.sums.Rows.TheVariants.{Firsts, Seconds}
use Rattle.vd_cost_network_tables.specs.Sums.{part, side_of}
use Rattle.vd_cost_network_tables.specs.Tables.{cells_of, arc_table, raw_arc, shifted_cells, shifted_row, table_of_cells, tests_of}
use Rattle.vd_cost_network_tables.proofs.Placed.{tests_size}
use Rattle.vd_cost_network_tables.proofs.Tabled.{cells_table}

-- a row by place
row_shifted : (m : ℕ) (f g : ℕ → Option ℤ) (from : ℤ) (to : List ℤ) → ((w : ℕ) → w < m → option_map (λ c. c -ℤ (from +ℤ get_or to w (pos 0))) (f w) ≡ g w) → shifted_row (by_place m f) from to ≡ by_place m g
row_shifted m f g from to same =
    ap (λ n. by_place n (λ w. option_map (λ c. c -ℤ (from +ℤ get_or to w (pos 0))) (get_or (by_place m f) w None))) (size_by_place m f)
    ∙ same_by_place m (λ w. option_map (λ c. c -ℤ (from +ℤ get_or to w (pos 0))) (get_or (by_place m f) w None)) g
    (λ w low. ap (option_map (λ c. c -ℤ (from +ℤ get_or to w (pos 0)))) (at_place m f w None low) ∙ same w low)

module _ (problem : Problem) (raws : List RawArc) (shifts : List Shift) (k most : ℕ) (arc : Pair) (from to : List ℤ)
    (from_is : from ≡ by_place most (λ v. total (part raws Firsts k v) shifts)) (to_is : to ≡ by_place most (λ w. total (part raws Seconds k w) shifts))
    (few : settings problem arc.first ≤ most) (few_too : settings problem arc.second ≤ most) where
  pub taken : (v w : ℕ) → v < settings problem arc.first → w < settings problem arc.second → get_or from v (pos 0) +ℤ get_or to w (pos 0) ≡ total (use_shift k v w) shifts
  taken v w low low_w =
      let first = ap (λ list. get_or list v (pos 0)) from_is ∙ at_place most (λ r. total (part raws Firsts k r) shifts) v (pos 0) (omega (arith, low, few)) in
      let second = ap (λ list. get_or list w (pos 0)) to_is ∙ at_place most (λ r. total (part raws Seconds k r) shifts) w (pos 0) (omega (arith, low_w, few_too)) in
      let both = sides_together side_of raws k v w shifts in
      omega (arith, ints, first, second, both)

  cells_shifted : shifted_cells (cells_of problem arc) from to ≡ by_place (settings problem arc.first) (λ v. by_place (settings problem arc.second) ((network_pair shifts k arc).value v))
  cells_shifted =
      let n = settings problem arc.first in
      let m = settings problem arc.second in
      let row : ℕ → List (Option ℤ) = λ v. by_place m (arc.value v) in
      ap (λ count. by_place count (λ v. shifted_row (get_or (by_place n row) v []) (get_or from v (pos 0)) to)) (size_by_place n row)
      ∙ same_by_place n (λ v. shifted_row (get_or (by_place n row) v []) (get_or from v (pos 0)) to) (λ v. by_place m ((network_pair shifts k arc).value v))
      (λ v low. ap (λ list. shifted_row list (get_or from v (pos 0)) to) (at_place n row v [] low)
      ∙ row_shifted m (arc.value v) ((network_pair shifts k arc).value v) (get_or from v (pos 0)) to
      (λ w low_w. ap (λ z. option_map (λ c. c -ℤ z) (arc.value v w)) (taken v w low low_w)))

  table_is : table_of_cells arc.first arc.second (tests_of problem arc.first) (tests_of problem arc.second) (shifted_cells (cells_of problem arc) from to) ≡ arc_table problem (network_pair shifts k arc)
  table_is =
      ap (table_of_cells arc.first arc.second (tests_of problem arc.first) (tests_of problem arc.second))
      (cells_shifted ∙ ap₂ (λ n m. by_place n (λ v. by_place m ((network_pair shifts k arc).value v))) (sym (tests_size problem arc.first)) (sym (tests_size problem arc.second)))
      ∙ cells_table (tests_of problem arc.first) (tests_of problem arc.second) (network_pair shifts k arc).value arc.first arc.second

-- the arc with a number
pub pair_at : (shifts : List Shift) (first i : ℕ) (arcs : List Pair) (d e : Pair) → i < length arcs → get_or (network_pairs shifts first arcs) i d ≡ network_pair shifts (first + i) (get_or arcs i e)
pair_at shifts first i [] d e low = absurd (omega (arith, low))
pair_at shifts first zero (arc ∷ arcs) d e low = let same : first ≡ first + 0 = omega arith in ap (λ k. network_pair shifts k arc) same
pair_at shifts first (suc i) (arc ∷ arcs) d e low =
    let next : first + 1 + i ≡ first + suc i = omega arith in
    pair_at shifts (first + 1) i arcs d e (omega (arith, low)) ∙ ap (λ k. network_pair shifts k (get_or arcs i e)) next

-- one step of the loop over arcs
pub next_table : (problem : Problem) (shifts : List Shift) (most k : ℕ) (raws : List RawArc) (raw : RawArc) (d : Pair) (from to : List ℤ) (firsts seconds : List Bool) (cells : List (List (Option ℤ))) (item : ArcTable)
    → raws ≡ map (raw_arc problem) (arcs problem) → k < length raws → raw ≡ get_or raws k raw
    → from ≡ by_place most (λ v. total (part raws Firsts k v) shifts) → to ≡ by_place most (λ w. total (part raws Seconds k w) shifts) → ((point : ℕ) → settings problem point ≤ most)
    → firsts ≡ tests_of problem raw.first → seconds ≡ tests_of problem raw.second → cells ≡ shifted_cells raw.cells from to → item ≡ table_of_cells raw.first raw.second firsts seconds cells
    → item ≡ arc_table problem (get_or (network_pairs shifts 0 (arcs problem)) k d)
next_table problem shifts most k raws raw d from to firsts seconds cells item are low is from_is to_is few firsts_are seconds_are cells_are item_is =
    let size = ap length are ∙ length-map (arcs problem) (raw_arc problem) in
    let low_arc : k < length (arcs problem) = omega (arith, size, low) in
    let arc : Pair = get_or (arcs problem) k d in
    let raw_is : raw ≡ raw_arc problem arc = is ∙ ap (λ (rs : List RawArc). get_or rs k raw) are ∙ get_or-map (raw_arc problem) (arcs problem) k d raw low_arc in
    let first_tests : firsts ≡ tests_of problem arc.first = firsts_are ∙ ap (λ (r : RawArc). tests_of problem r.first) raw_is in
    let second_tests : seconds ≡ tests_of problem arc.second = seconds_are ∙ ap (λ (r : RawArc). tests_of problem r.second) raw_is in
    let shifted : cells ≡ shifted_cells (cells_of problem arc) from to = cells_are ∙ ap (λ (r : RawArc). shifted_cells r.cells from to) raw_is in
    let number : k ≡ 0 + k = omega arith in
    item_is
    ∙ (λ i. table_of_cells (raw_is i).first (raw_is i).second (first_tests i) (second_tests i) (shifted i))
    ∙ table_is problem raws shifts k most arc from to from_is to_is (few arc.first) (few arc.second)
    ∙ ap (λ n. arc_table problem (network_pair shifts n arc)) number
    ∙ ap (arc_table problem) (sym (pair_at shifts 0 k (arcs problem) d d low_arc))

pub few_settings : (problem : Problem) (most point : ℕ) → length (protocols problem) ≤ most → 2 ≤ most → settings problem point ≤ most
few_settings problem most point many two = elim (at_either problem (λ slot. length (protocols problem)) (λ switch. 2) 0 point) [
  | inl slot ↦ subst (λ n. n ≤ most) (sym slot.1) many
  | inr behind ↦ subst (λ n. n ≤ most) (sym behind.1) (at_most (slice_get (switches problem) (point - length problem.slots)))
]
  where
    at_most : (item : Option Switch) → option_map_or (λ w. 2) item 0 ≤ most
    at_most None = omega arith
    at_most (Some w) = two
