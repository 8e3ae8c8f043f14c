-- What points come to alone under shifts.
use Rattle.std.proofs.Common.{◌≡◌, ℕ, ◌<◌, ◌≤◌, Option, Some, None, List, [], length, map, get_or, sym, ap, ap₂, ◌∙◌, subst, arith, inl, inr, slice_get, ℤ, pos, ◌+ℤ◌, option_map}
use Rattle.std.specs.Prelude.{unwrap_or, IfSome}
use Rattle.std.specs.Option.{option_map_or}
use Rattle.std.proofs.lemmas.Int.{ints}
use Rattle.std.proofs.lemmas.List.{get_or_past}
use Rattle.std.proofs.lemmas.Option.{slice_get-get_or}
use Rattle.vd_search_tree.specs.declared.shift.Shift.{Shift}
use Rattle.vd_space.specs.declared.problem.Problem.{Problem}
use Rattle.vd_space.specs.Labelled.{IsLabelled}
use Rattle.vd_space.specs.Sizes.{IsWithinLimits}
use Rattle.vd_space.proofs.Front.{listed_or_not}
use Rattle.vd_space_prefix.specs.Transfers.{IsWithin, by_place}
use Rattle.vd_space_prefix.proofs.Front.{at_place, size_by_place}
use Rattle.vd_space.specs.Arcs.{arcs, point_value}
use Rattle.vd_space.specs.Network.{network_one, no_parts_left}
use Rattle.vd_space.specs.Points.{points}
use Rattle.vd_cost_network_prefix.specs.declared.made.PointTable.{PointTable}
use Rattle.vd_cost_network_prefix.specs.States.{AreSettings, IsSmallPoint, as_states, count_of_points, point_at, point_part, settings}
use Rattle.vd_cost_network_tables.specs.declared.raw.RawArc.{RawArc}
use Rattle.vd_space_tables.specs.declared.space_terms.sums.Rows.TheVariants.{Ends}
use Rattle.vd_space_tables.specs.Sums.{AreSmallShifts}
use Rattle.vd_cost_network_tables.specs.Sums.{sums_of}
use Rattle.vd_cost_network_tables.specs.Tables.{point_table, point_tables_of, raw_arc, tests_of}
use Rattle.vd_cost_network_tables.proofs.Front.{map_map, tests_size, gain_is, point_light, point_tables_small}
use Rattle.vd_cost_network_bound.specs.Bounds.{free_at, values_at}
use Rattle.vd_cost_network_bound.specs.Least.{least_among, settings_at, value_with}
use Rattle.vd_cost_network_bound.proofs.Joined.{IsPart, in_tests, settings_found, some_at}
use Rattle.vd_cost_network_bound.proofs.Passing.{least_is, point_table_gives, settings_by}

small_at : (table : PointTable) → IsSmallPoint table → (state : Option ℕ) → IsWithin 1125899906842624 (point_at table state)
small_at table small None = small.free
small_at table small (Some v) = small.costs v

-- ---- what points cost without shifts is little

worth : (o : Option ℤ) → IfSome o (IsWithin 562949953421312) → IsWithin 562949953421312 (unwrap_or o (pos 0))
worth None is = record { low = omega (arith, ints); high = omega (arith, ints) }
worth (Some z) is = is

pub values_light : (problem : Problem) → IsLabelled problem → IsWithinLimits problem → (point : ℕ) (values : List (Option ℤ)) → values ≡ values_at problem point
    → (v : ℕ) → IsWithin 562949953421312 (unwrap_or (get_or values v None) (pos 0))
values_light problem labelled limits point values are v =
    let n = settings problem point in
    subst (λ (list : List (Option ℤ)). IsWithin 562949953421312 (unwrap_or (get_or list v None) (pos 0))) (sym are) (elim (listed_or_not n v) [
      | inl low ↦ subst (λ (o : Option ℤ). IsWithin 562949953421312 (unwrap_or o (pos 0))) (sym (at_place n (point_value problem point) v None low)) (worth (point_value problem point v) (point_light problem labelled limits point v))
      | inr past ↦
          subst (λ (o : Option ℤ). IsWithin 562949953421312 (unwrap_or o (pos 0)))
          (sym (get_or_past (values_at problem point) v None (subst (λ m. m ≤ v) (sym (size_by_place n (point_value problem point))) past)))
          (record { low = omega (arith, ints); high = omega (arith, ints) })
    ])

-- ---- a point

module _ (problem : Problem) (labelled : IsLabelled problem) (limits : IsWithinLimits problem) (shifts : List Shift) (few_shifts : length shifts ≤ 131072) (amounts : AreSmallShifts shifts)
    (most : ℕ) (few : (point : ℕ) → settings problem point ≤ most) (states : List (Option ℕ)) (are : AreSettings problem (as_states states))
    (free : List (List ℕ)) (free_are : free ≡ by_place (count_of_points problem) (free_at problem)) where
  pub point_is : (raws : List RawArc) (k : ℕ) (sums : List (List ℤ)) (line : List ℤ) (values : List (Option ℤ)) (own : List ℕ) (result : ℤ)
      → raws ≡ map (raw_arc problem) (arcs problem) → sums ≡ sums_of raws Ends (count_of_points problem) most shifts → k < count_of_points problem
      → line ≡ get_or sums k [] → values ≡ values_at problem k → own ≡ settings_at free states k
      → result ≡ unwrap_or (least_among own (value_with values line)) no_parts_left
      → IsPart (point_part (point_tables_of problem shifts) (as_states states) k) result
  point_is raws k sums line values own result raws_are sums_are low line_is values_are own_are result_is =
      let tests = tests_of problem k in
      let n = settings problem k in
      let state = as_states states k in
      let value : ℕ → Option ℤ = (network_one problem shifts k).value in
      let inside = in_tests problem states are k in
      let own_settings : own ≡ settings_by tests state = own_are ∙ settings_found problem free states free_are k in
      let each : (v : ℕ) → v < length tests → value_with (values_at problem k) (get_or sums k []) v ≡ value v =
      λ v low_v.
      let low_n : v < n = subst (λ m. v < m) (tests_size problem k) low_v in
      ap₂ (λ (o : Option ℤ) (z : ℤ). option_map (λ c. c +ℤ z) o) (at_place n (point_value problem k) v None low_n) (gain_is problem shifts raws most sums raws_are sums_are few k v low low_n) in
      let table : PointTable = point_table problem (network_one problem shifts k) in
      let tables = point_tables_of problem shifts in
      let made : tables ≡ by_place (count_of_points problem) (λ point. point_table problem (network_one problem shifts point)) = map_map (point_table problem) (network_one problem shifts) (points problem) in
      let size : length tables ≡ count_of_points problem = ap length made ∙ size_by_place (count_of_points problem) (λ point. point_table problem (network_one problem shifts point)) in
      let low_table : k < length tables = subst (λ m. k < m) (sym size) low in
      let found : slice_get tables k ≡ Some table =
      slice_get-get_or tables k table low_table
      ∙ ap Some (ap (λ (list : List PointTable). get_or list k table) made ∙ at_place (count_of_points problem) (λ point. point_table problem (network_one problem shifts point)) k table low) in
      let is : result ≡ point_at table state =
      result_is
      ∙ (λ i. unwrap_or (least_among (own_settings i) (value_with (values_are i) (line_is i))) no_parts_left)
      ∙ ap (λ o. unwrap_or o no_parts_left) (least_is tests state (value_with (values_at problem k) (get_or sums k [])) value inside each)
      ∙ point_table_gives tests state value inside in
      let small = small_at table (some_at IsSmallPoint (slice_get tables k) table found (point_tables_small problem labelled limits shifts few_shifts amounts k)) state in
      record {
        is = is ∙ sym (ap (λ o. option_map_or (λ (t : PointTable). point_at t state) o (pos 0)) found);
        within = subst (IsWithin 1125899906842624) (sym is) small;
      }
