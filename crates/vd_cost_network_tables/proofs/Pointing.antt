-- Tables of points, by what shifts put on them.
use Rattle.std.proofs.Common.{◌≡◌, ℕ, zero, suc, ◌+◌, ◌*◌, ◌<◌, ◌≤◌, Bool, true, false, ◌&&◌, ◌||◌, cond, ◌-◌, Option, Some, None, List, [], ◌∷◌, length, map, get_or, sym, ap, ap₂, ◌∙◌, subst, arith, inl, inr, slice_get, ℤ, pos, ◌+ℤ◌, option_map}
use Rattle.std.specs.Prelude.{unwrap_or, IfSome, ◌==◌}
use Rattle.std.specs.List.{list_all}
use Rattle.std.specs.Option.{option_map_or}
use Rattle.std.proofs.lemmas.Int.{ints}
use Rattle.std.proofs.lemmas.List.{get_or_past}
use Rattle.vd_base.specs.declared.protocols.Proto.{Proto}
use Rattle.vd_search_tree.specs.declared.shift.Shift.{Shift}
use Rattle.vd_space.specs.declared.problem.Problem.{Problem}
use Rattle.vd_space.specs.declared.problem.Guard.{Guard}
use Rattle.vd_space.specs.Labelled.{IsLabelled}
use Rattle.vd_space.specs.Sizes.{IsWithinLimits}
use Rattle.vd_space.specs.Validity.{protocols, is_candidate, may_read}
use Rattle.vd_space.specs.Costs.{Pair, total, operation_value}
use Rattle.vd_space.specs.Bounds.{only_if, outputs_value, signed}
use Rattle.vd_space.proofs.Front.{listed_or_not}
use Rattle.vd_space_prefix.specs.Tables.{gain_at}
use Rattle.vd_space_prefix.specs.Transfers.{IsWithin, by_place}
use Rattle.vd_space_prefix.proofs.Front.{at_place, size_by_place}
use Rattle.vd_space_tables.proofs.Front.{get_or_any, if_within, same_by_place, whole_within}
use Rattle.vd_space_tables.specs.Values.{merged_value, together}
use Rattle.vd_space_tables.proofs.Front.{HasAtMost, add_within, more_within, operation_value_small, outputs_value_small}
use Rattle.vd_space.specs.Points.{Switch, off, points, switches}
use Rattle.vd_space.specs.Arcs.{index_readable, arcs, parts, point_value, slot_value, switch_value}
use Rattle.vd_space.specs.Network.{network_one, point_shift, end_of}
use Rattle.vd_space.proofs.Front.{at_either, at_slot, at_switch}
use Rattle.vd_cost_network_prefix.specs.declared.made.PointTable.{PointTable}
use Rattle.vd_cost_network_prefix.specs.States.{AreSmallPoints, IsSmallPoint, count_of_points, settings}
use Rattle.vd_cost_network_tables.specs.declared.raw.RawArc.{RawArc}
use Rattle.vd_space_tables.specs.declared.space_terms.sums.Rows.TheVariants.{Ends}
use Rattle.vd_space_tables.specs.Sums.{AreSmallShifts, AreSmallSums}
use Rattle.vd_cost_network_tables.specs.Sums.{part, sums_of}
use Rattle.vd_cost_network_tables.specs.Tables.{point_table, point_tables_of, raw_arc, switch_values, table_at, table_by, table_of_values, tests_of}
use Rattle.vd_cost_network_tables.proofs.Costs.{map_map}
use Rattle.vd_cost_network_tables.proofs.Counting.{points_shifted}
use Rattle.vd_cost_network_tables.proofs.Owning.{nothing_shifted}
use Rattle.vd_cost_network_tables.proofs.Placed.{tests_size}
use Rattle.vd_cost_network_tables.proofs.Ranging.{point_table_small}
use Rattle.vd_cost_network_tables.proofs.Tabled.{values_table}

-- ---- rows of sums

pub row_found : (sums : List (List ℤ)) (k : ℕ) (line : List ℤ) → k < length sums → line ≡ get_or sums k line → line ≡ get_or sums k []
row_found sums k line low is = is ∙ get_or_any sums k line [] low

pub line_small : (sums : List (List ℤ)) (k : ℕ) (line : List ℤ) → AreSmallSums sums → line ≡ get_or sums k [] → (v : ℕ) → IsWithin 562949953421312 (get_or line v (pos 0))
line_small sums k line small is v = subst (λ (xs : List ℤ). IsWithin 562949953421312 (get_or xs v (pos 0))) (sym is) (small k v)

-- ---- the guard that a table names

pub named_inside : {X : Type 0} (xs : List X) (k : ℕ) (x : X) → slice_get xs k ≡ Some x → k < length xs
named_inside [] k x is = cc
named_inside (y ∷ xs) zero x is = omega arith
named_inside (y ∷ xs) (suc k) x is = let rest = named_inside xs k x is in omega (arith, rest)

named_is : {X : Type 0} (xs : List X) (k : ℕ) (x y : X) → slice_get xs k ≡ Some x → y ≡ get_or xs k y → y ≡ x
named_is [] k x y is at = cc
named_is (z ∷ xs) zero x y is at = let same : z ≡ x = cc in at ∙ same
named_is (z ∷ xs) (suc k) x y is at = named_is xs k x y is at

pub named_guard : (own guards : List Guard) (k : ℕ) (guard other : Guard) → guards ≡ own → guard ≡ get_or guards k guard → slice_get own k ≡ Some other → guard ≡ other
named_guard own guards k guard other same at is = named_is own k other guard is (at ∙ ap (λ list. get_or list k guard) same)

-- ---- one table

module _ (problem : Problem) (sums : List (List ℤ)) where
  abbrev many : ℕ
  many = length (protocols problem)

  pub slot_item : (slot : ℕ) (tests : List Bool) (amounts : List ℤ) (table : PointTable) → slot < length problem.slots → tests ≡ tests_of problem slot → amounts ≡ get_or sums slot []
      → table ≡ table_of_values tests (by_place many (λ p. option_map (λ c. c +ℤ get_or amounts p (pos 0)) (slot_value problem p slot))) → table ≡ table_by problem sums slot
  slot_item slot tests amounts table low tests_are amounts_are is =
      is
      ∙ (λ i. table_of_values (tests_are i) (by_place many (λ p. option_map (λ c. c +ℤ get_or (amounts_are i) p (pos 0)) (slot_value problem p slot))))
      ∙ ap (table_of_values (tests_of problem slot))
      (same_by_place many (λ p. option_map (λ c. c +ℤ gain_at sums slot p) (slot_value problem p slot)) (λ p. option_map (λ c. c +ℤ gain_at sums slot p) (point_value problem slot p))
      (λ p low_p. ap (option_map (λ c. c +ℤ gain_at sums slot p)) (sym (at_slot problem (slot_value problem p) (switch_value problem p) None slot low)))
      ∙ ap (λ n. by_place n (λ v. option_map (λ c. c +ℤ gain_at sums slot v) (point_value problem slot v))) (sym (at_slot problem (λ s. many) (λ w. 2) 0 slot low)))

  pub switch_item : (k : ℕ) (w : Switch) (amounts : List ℤ) (table : PointTable) → slice_get (switches problem) k ≡ Some w → amounts ≡ get_or sums (length problem.slots + k) []
      → table ≡ table_of_values (true ∷ true ∷ []) (switch_values problem w amounts) → table ≡ table_by problem sums (length problem.slots + k)
  switch_item k w amounts table at amounts_are is =
      let point = length problem.slots + k in
      is
      ∙ ap₂ table_of_values (sym (at_switch problem (λ slot. by_place many (is_candidate problem slot)) (λ switch. true ∷ true ∷ []) [] k w at))
      (ap (λ xs. switch_values problem w xs) amounts_are
      ∙ same_by_place 2 (λ v. option_map (λ c. c +ℤ gain_at sums point v) (switch_value problem v w)) (λ v. option_map (λ c. c +ℤ gain_at sums point v) (point_value problem point v))
      (λ v low. ap (option_map (λ c. c +ℤ gain_at sums point v)) (sym (at_switch problem (slot_value problem v) (switch_value problem v) None k w at)))
      ∙ ap (λ n. by_place n (λ v. option_map (λ c. c +ℤ gain_at sums point v) (point_value problem point v))) (sym (at_switch problem (λ s. many) (λ x. 2) 0 k w at)))

-- ---- all tables

module _ (problem : Problem) (shifts : List Shift) (raws : List RawArc) (most : ℕ) (sums : List (List ℤ)) (raws_are : raws ≡ map (raw_arc problem) (arcs problem))
    (sums_are : sums ≡ sums_of raws Ends (count_of_points problem) most shifts) (few : (point : ℕ) → settings problem point ≤ most) where
  pub gain_is : (point v : ℕ) → point < count_of_points problem → v < settings problem point → gain_at sums point v ≡ total (point_shift (arcs problem) point v) shifts
  gain_is point v low low_v =
      let room = few point in
      let row : ℕ → List ℤ = λ r. by_place most (λ place. total (part raws Ends r place) shifts) in
      ap (λ xs. gain_at xs point v) sums_are
      ∙ ap (λ line. get_or line v (pos 0)) (at_place (count_of_points problem) row point [] low)
      ∙ at_place most (λ place. total (part raws Ends point place) shifts) v (pos 0) (omega (arith, room, low_v))
      ∙ ap (λ (rs : List RawArc). total (part rs Ends point v) shifts) raws_are
      ∙ points_shifted problem (arcs problem) point v shifts

  table_is : (point : ℕ) → point < count_of_points problem → table_by problem sums point ≡ table_at problem shifts point
  table_is point low =
      ap (table_of_values (tests_of problem point))
      (same_by_place (settings problem point) (λ v. option_map (λ c. c +ℤ gain_at sums point v) (point_value problem point v)) (network_one problem shifts point).value
      (λ v low_v. ap (λ z. option_map (λ c. c +ℤ z) (point_value problem point v)) (gain_is point v low low_v))
      ∙ ap (λ n. by_place n (network_one problem shifts point).value) (sym (tests_size problem point)))
      ∙ values_table (tests_of problem point) (network_one problem shifts point).value

  pub point_tables_made : by_place (count_of_points problem) (table_by problem sums) ≡ point_tables_of problem shifts
  point_tables_made =
      same_by_place (count_of_points problem) (table_by problem sums) (table_at problem shifts) table_is ∙ sym (map_map (point_table problem) (network_one problem shifts) (points problem))

-- ---- small numbers

parts_light : (o : Option ℤ) → HasAtMost 2199023255552 o → IfSome (parts o) (IsWithin 562949953421312)
parts_light None is = tt
parts_light (Some z) is =
    let low = is.low in
    let high = is.high in
    record { low = omega (arith, ints, low); high = omega (arith, ints, high) }

only_light : (test : Bool) (o : Option ℤ) → IfSome o (IsWithin 562949953421312) → IfSome (only_if test o) (IsWithin 562949953421312)
only_light true o is = is
only_light false o is = tt

more_small : (o : Option ℤ) (z : ℤ) → IfSome o (IsWithin 562949953421312) → IsWithin 562949953421312 z → IfSome (option_map (λ c. c +ℤ z) o) (IsWithin 1125899906842624)
more_small None z light small = tt
more_small (Some c) z light small =
    let low = light.low in
    let high = light.high in
    let small_low = small.low in
    let small_high = small.high in
    record { low = omega (arith, ints, low, small_low); high = omega (arith, ints, high, small_high) }

each_mapped : {X Y : Type 0} (P : Y → Type 0) (f : X → Y) → ((x : X) → P (f x)) → (xs : List X) (k : ℕ) → IfSome (slice_get (map f xs) k) P
each_mapped P f each [] k = tt
each_mapped P f each (x ∷ xs) zero = each x
each_mapped P f each (x ∷ xs) (suc k) = each_mapped P f each xs k

module _ (problem : Problem) (labelled : IsLabelled problem) (limits : IsWithinLimits problem) where
  -- 2^41
  own_within : (slot p : ℕ) → HasAtMost 2199023255552 (together problem slot p)
  own_within slot p =
      let count = limits.count in
      let own = add_within 14417920 (13893632 * length problem.outputs) (operation_value problem slot p) (outputs_value problem slot p problem.outputs)
      (operation_value_small problem labelled limits slot p) (outputs_value_small problem labelled limits slot p problem.outputs limits.outputs) in
      more_within (14417920 + 13893632 * length problem.outputs) 2199023255552 (unwrap_or (together problem slot p) (pos 0)) (omega (arith, count)) own

  pub values_within : (slot : ℕ) (list : List Proto) (values : List (Option ℤ)) → values ≡ by_place (length list) (merged_value problem slot []) → (p : ℕ) → IsWithin 2199023255552 (unwrap_or (get_or values p None) (pos 0))
  values_within slot list values are p = elim (listed_or_not (length list) p) [
    | inl low ↦ subst (HasAtMost 2199023255552) (sym (ap (λ (vs : List (Option ℤ)). get_or vs p None) are ∙ at_place (length list) (merged_value problem slot []) p None low ∙ nothing_shifted (together problem slot p))) (own_within slot p)
    | inr past ↦ subst (HasAtMost 2199023255552)
        (sym (ap (λ (vs : List (Option ℤ)). get_or vs p None) are ∙ get_or_past (by_place (length list) (merged_value problem slot [])) p None (subst (λ n. n ≤ p) (sym (size_by_place (length list) (merged_value problem slot []))) past)))
        (record { low = omega (arith, ints); high = omega (arith, ints) })
  ]

  switch_light : (v : ℕ) (item : Option Switch) → IfSome (option_map_or (switch_value problem v) item None) (IsWithin 562949953421312)
  switch_light v None = tt
  switch_light v (Some w) = only_light (v == off || may_read problem w.host w.guard.slot.0) (Some (pos 0)) (record { low = omega (arith, ints); high = omega (arith, ints) })

  pub point_light : (point v : ℕ) → IfSome (point_value problem point v) (IsWithin 562949953421312)
  point_light point v = elim (at_either problem (slot_value problem v) (switch_value problem v) None point) [
    | inl slot ↦ subst (λ (o : Option ℤ). IfSome o (IsWithin 562949953421312)) (sym slot.1)
        (only_light (list_all (index_readable problem point v) problem.indexes) (parts (together problem point v)) (parts_light (together problem point v) (own_within point v)))
    | inr behind ↦ subst (λ (o : Option ℤ). IfSome o (IsWithin 562949953421312)) (sym behind.1) (switch_light v (slice_get (switches problem) (point - length problem.slots)))
  ]

  module _ (shifts : List Shift) (few : length shifts ≤ 131072) (amounts : AreSmallShifts shifts) where
    put_within : (point v : ℕ) (shift : Shift) → IsWithin 4294967296 (signed shift) → IsWithin 4294967296 (point_shift (arcs problem) point v shift)
    put_within point v shift low = item_within (slice_get (arcs problem) shift.at)
      where
        item_within : (item : Option Pair) → IsWithin 4294967296 (option_map_or (λ (arc : Pair). cond (end_of arc shift.side == point && shift.proto == v) (signed shift) (pos 0)) item (pos 0))
        item_within None = record { low = omega (arith, ints); high = omega (arith, ints) }
        item_within (Some arc) = if_within (end_of arc shift.side == point && shift.proto == v) (signed shift) low

    point_small : (point : ℕ) → IsSmallPoint (point_table problem (network_one problem shifts point))
    point_small point =
        point_table_small (tests_of problem point) (network_one problem shifts point).value
        (λ v. more_small (point_value problem point v) (total (point_shift (arcs problem) point v) shifts) (point_light point v) (whole_within (point_shift (arcs problem) point v) shifts few amounts (put_within point v)))

    pub point_tables_small : AreSmallPoints (point_tables_of problem shifts)
    point_tables_small =
        subst AreSmallPoints (sym (map_map (point_table problem) (network_one problem shifts) (points problem)))
        (each_mapped IsSmallPoint (λ point. point_table problem (network_one problem shifts point)) point_small (points problem))
