-- What arcs come to under shifts.
use Rattle.std.proofs.Common.{◌≡◌, ℕ, zero, suc, ◌+◌, ◌<◌, ◌≤◌, Bool, Option, Some, None, List, [], ◌∷◌, length, map, get_or, refl, sym, ap, ap₂, ◌∙◌, subst, arith, slice_get, ℤ, pos, ◌-ℤ◌, option_map}
use Rattle.std.specs.Prelude.{unwrap_or, IfSome}
use Rattle.std.specs.List.{range_with_len}
use Rattle.std.specs.Option.{option_map_or}
use Rattle.std.proofs.lemmas.List.{get_or-map, length-map}
use Rattle.std.proofs.lemmas.Option.{slice_get-get_or}
use Rattle.vd_search_tree.specs.declared.shift.Shift.{Shift}
use Rattle.vd_space.specs.declared.problem.Problem.{Problem}
use Rattle.vd_space.specs.Costs.{Pair, total}
use Rattle.vd_space.specs.Labelled.{IsLabelled}
use Rattle.vd_space.specs.Sizes.{IsWithinLimits}
use Rattle.vd_space_prefix.specs.Transfers.{IsWithin, by_place}
use Rattle.vd_space_prefix.proofs.Front.{at_place}
use Rattle.vd_space.specs.Arcs.{arcs}
use Rattle.vd_space.specs.Network.{network_pair, network_pairs, no_parts_left}
use Rattle.vd_cost_network_prefix.specs.declared.made.ArcTable.{ArcTable}
use Rattle.vd_cost_network_prefix.specs.States.{AreSettings, IsSmallArc, as_states, count_of_points, arc_at, arc_part, settings}
use Rattle.vd_cost_network_prefix.proofs.Front.{pairs_size}
use Rattle.vd_cost_network_tables.specs.declared.raw.RawArc.{RawArc}
use Rattle.vd_space_tables.specs.declared.space_terms.sums.Rows.TheVariants.{Firsts, Seconds}
use Rattle.vd_space_tables.specs.Sums.{AreSmallShifts}
use Rattle.vd_cost_network_tables.specs.Sums.{part}
use Rattle.vd_cost_network_tables.specs.Tables.{cells_of, arc_table, arc_tables_of, raw_arc, tests_of}
use Rattle.vd_cost_network_tables.proofs.Front.{tests_found, map_map, tests_size, arc_tables_small, pair_at, taken}
use Rattle.vd_cost_network_bound.specs.Bounds.{free_at}
use Rattle.vd_cost_network_bound.specs.Least.{cell_less, least_of_cells, least_of_row, passing, settings_at}
use Rattle.vd_cost_network_bound.proofs.Passing.{IsIn, least_by, least_is, arc_table_gives, settings_by}

-- ---- settings

got_any : {X Y : Type 0} (f : X → Y) (xs : List X) (k : ℕ) (d : X) → get_or (map f xs) k (f d) ≡ f (get_or xs k d)
got_any f [] k d = refl
got_any f (x ∷ xs) zero d = refl
got_any f (x ∷ xs) (suc k) d = got_any f xs k d

free_found : (problem : Problem) (free : List (List ℕ)) → free ≡ by_place (count_of_points problem) (free_at problem) → (point : ℕ) → get_or free point [] ≡ passing (tests_of problem point)
free_found problem free are point =
    ap (λ (rows : List (List ℕ)). get_or rows point []) (are ∙ sym (map_map passing (tests_of problem) (range_with_len 0 (count_of_points problem))))
    ∙ got_any passing (by_place (count_of_points problem) (tests_of problem)) point []
    ∙ ap passing (tests_found problem (by_place (count_of_points problem) (tests_of problem)) refl point)

pub settings_found : (problem : Problem) (free : List (List ℕ)) (states : List (Option ℕ)) → free ≡ by_place (count_of_points problem) (free_at problem) → (point : ℕ)
    → settings_at free states point ≡ settings_by (tests_of problem point) (as_states states point)
settings_found problem free states are point = ap (option_map_or (λ v. v ∷ []) (get_or states point None)) (free_found problem free are point)

pub in_tests : (problem : Problem) (states : List (Option ℕ)) → AreSettings problem (as_states states) → (point : ℕ) → IsIn (tests_of problem point) (as_states states point)
in_tests problem states are point v is = subst (λ n. v < n) (sym (tests_size problem point)) (are point v is)

-- ---- an arc

small_at : (table : ArcTable) → IsSmallArc table → (first second : Option ℕ) → IsWithin 1125899906842624 (arc_at table first second)
small_at table small None None = small.both
small_at table small (Some v) None = small.rows v
small_at table small None (Some w) = small.columns w
small_at table small (Some v) (Some w) = small.cells v w

-- of a list's items one that there is
pub some_at : {X : Type 0} (P : X → Type 0) (item : Option X) (x : X) → item ≡ Some x → IfSome item P → P x
some_at P item x is each = subst (λ (o : Option _). IfSome o P) is each

module _ (problem : Problem) (shifts : List Shift) (raws : List RawArc) (k most : ℕ) (arc : Pair) (from to : List ℤ)
    (from_is : from ≡ by_place most (λ v. total (part raws Firsts k v) shifts)) (to_is : to ≡ by_place most (λ w. total (part raws Seconds k w) shifts))
    (few : (point : ℕ) → settings problem point ≤ most) (states : List (Option ℕ)) (are : AreSettings problem (as_states states)) where
  abbrev firsts : List Bool
  firsts = tests_of problem arc.first

  abbrev seconds : List Bool
  seconds = tests_of problem arc.second

  abbrev value : ℕ → ℕ → Option ℤ
  value = (network_pair shifts k arc).value

  cell_is : (v w : ℕ) → v < length firsts → w < length seconds → cell_less (get_or (cells_of problem arc) v []) (get_or from v (pos 0)) to w ≡ value v w
  cell_is v w low low_w =
      let first : v < settings problem arc.first = subst (λ n. v < n) (tests_size problem arc.first) low in
      let second : w < settings problem arc.second = subst (λ n. w < n) (tests_size problem arc.second) low_w in
      ap (λ (row : List (Option ℤ)). cell_less row (get_or from v (pos 0)) to w) (at_place (settings problem arc.first) (λ r. by_place (settings problem arc.second) (arc.value r)) v [] first)
      ∙ ap₂ (λ (o : Option ℤ) (z : ℤ). option_map (λ c. c -ℤ z) o) (at_place (settings problem arc.second) (arc.value v) w None second)
      (taken problem raws shifts k most arc from to from_is to_is (few arc.first) (few arc.second) v w first second)

  arc_is : unwrap_or (least_of_cells (settings_by firsts (as_states states arc.first)) (settings_by seconds (as_states states arc.second)) (cells_of problem arc) from to) no_parts_left
      ≡ arc_at (arc_table problem (network_pair shifts k arc)) (as_states states arc.first) (as_states states arc.second)
  arc_is =
      let inside = in_tests problem states are arc.first in
      let inside_too = in_tests problem states are arc.second in
      let second = as_states states arc.second in
      let row : ℕ → Option ℤ = λ v. least_of_row (settings_by seconds second) (get_or (cells_of problem arc) v []) (get_or from v (pos 0)) to in
      ap (λ o. unwrap_or o no_parts_left)
      (least_is firsts (as_states states arc.first) row (λ v. least_by seconds second (value v)) inside
      (λ v low. least_is seconds second (cell_less (get_or (cells_of problem arc) v []) (get_or from v (pos 0)) to) (value v) inside_too (λ w low_w. cell_is v w low low_w)))
      ∙ arc_table_gives arc.first arc.second firsts seconds (as_states states arc.first) second value inside inside_too

-- ---- the arc with a number

-- what an arc's part is, and that it is small
pub record IsPart (whole part : ℤ) : Type 0 where
  pub is : part ≡ whole
  pub within : IsWithin 1125899906842624 part

module _ (problem : Problem) (labelled : IsLabelled problem) (limits : IsWithinLimits problem) (shifts : List Shift) (few_shifts : length shifts ≤ 131072) (amounts : AreSmallShifts shifts)
    (most : ℕ) (few : (point : ℕ) → settings problem point ≤ most) (states : List (Option ℕ)) (are : AreSettings problem (as_states states))
    (free : List (List ℕ)) (free_are : free ≡ by_place (count_of_points problem) (free_at problem)) where
  pub part_is : (raws : List RawArc) (k : ℕ) (raw : RawArc) (from to : List ℤ) (firsts seconds : List ℕ) (cells : List (List (Option ℤ))) (result : ℤ)
      → raws ≡ map (raw_arc problem) (arcs problem) → k < length raws → raw ≡ get_or raws k raw
      → from ≡ by_place most (λ v. total (part raws Firsts k v) shifts) → to ≡ by_place most (λ w. total (part raws Seconds k w) shifts)
      → firsts ≡ settings_at free states raw.first → seconds ≡ settings_at free states raw.second → cells ≡ raw.cells
      → result ≡ unwrap_or (least_of_cells firsts seconds cells from to) no_parts_left
      → IsPart (arc_part (arc_tables_of problem shifts) (as_states states) k) result
  part_is raws k raw from to firsts seconds cells result raws_are low raw_at from_is to_is firsts_are seconds_are cells_are result_is =
      let size = ap length raws_are ∙ length-map (arcs problem) (raw_arc problem) in
      let low_arc : k < length (arcs problem) = omega (arith, size, low) in
      let none : Pair = record { first = 0; second = 0; value = λ p q. None } in
      let arc : Pair = get_or (arcs problem) k none in
      let raw_is : raw ≡ raw_arc problem arc = raw_at ∙ ap (λ (rs : List RawArc). get_or rs k raw) raws_are ∙ get_or-map (raw_arc problem) (arcs problem) k none raw low_arc in
      let first_settings : firsts ≡ settings_by (tests_of problem arc.first) (as_states states arc.first) = firsts_are ∙ ap (λ (r : RawArc). settings_at free states r.first) raw_is ∙ settings_found problem free states free_are arc.first in
      let second_settings : seconds ≡ settings_by (tests_of problem arc.second) (as_states states arc.second) = seconds_are ∙ ap (λ (r : RawArc). settings_at free states r.second) raw_is ∙ settings_found problem free states free_are arc.second in
      let all_cells : cells ≡ cells_of problem arc = cells_are ∙ ap (λ (r : RawArc). r.cells) raw_is in
      let pairs = network_pairs shifts 0 (arcs problem) in
      let tables = arc_tables_of problem shifts in
      let pairs_many = pairs_size shifts 0 (arcs problem) in
      let low_pair : k < length pairs = omega (arith, pairs_many, low_arc) in
      let table : ArcTable = arc_table problem (network_pair shifts k arc) in
      let zero_on : 0 + k ≡ k = omega arith in
      let pair_is : get_or pairs k none ≡ network_pair shifts k arc = pair_at shifts 0 k (arcs problem) none none low_arc ∙ ap (λ n. network_pair shifts n arc) zero_on in
      let low_table : k < length tables = subst (λ n. k < n) (sym (length-map pairs (arc_table problem))) low_pair in
      let found : slice_get tables k ≡ Some table =
      slice_get-get_or tables k table low_table ∙ ap Some (get_or-map (arc_table problem) pairs k none table low_pair ∙ ap (arc_table problem) pair_is) in
      let is : result ≡ arc_at table (as_states states arc.first) (as_states states arc.second) =
      result_is
      ∙ (λ i. unwrap_or (least_of_cells (first_settings i) (second_settings i) (all_cells i) from to) no_parts_left)
      ∙ arc_is problem shifts raws k most arc from to from_is to_is few states are in
      let small = small_at table (some_at IsSmallArc (slice_get tables k) table found (arc_tables_small problem shifts few_shifts amounts labelled limits k)) (as_states states arc.first) (as_states states arc.second) in
      record {
        is = is ∙ sym (ap (λ o. option_map_or (λ (t : ArcTable). arc_at t (as_states states t.first) (as_states states t.second)) o (pos 0)) found);
        within = subst (IsWithin 1125899906842624) (sym is) small;
      }
