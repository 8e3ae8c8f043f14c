-- What tables give under states is the least of their terms.
use Rattle.std.proofs.Common.{◌≡◌, ℕ, zero, suc, ◌+◌, ◌-◌, ◌<◌, ◌≤◌, Bool, true, false, Option, Some, None, List, [], ◌∷◌, length, map, get_or, refl, sym, ap, ap₂, ◌∙◌, subst, arith, inl, inr, ℤ, pos, slice_get}
use Rattle.std.specs.Prelude.{IsTrue, nat_lt, ◌==◌, unwrap_or}
use Rattle.std.specs.Option.{option_map_or}
use Rattle.std.specs.List.{range_with_len}
use Rattle.std.proofs.lemmas.Bool.{cases_eq, cases_Bool, cases_lt, cond-true, cond-false, eq-eqb, ne_eqb, lt-ltb, le-ltb}
use Rattle.std.proofs.lemmas.List.{length-map}
use Rattle.std.proofs.lemmas.List.FromFn.{length-range_with_len}
use Rattle.vd_space.specs.declared.problem.Problem.{Problem}
use Rattle.vd_space.specs.declared.problem.Making.{Making}
use Rattle.vd_space.specs.Validity.{protocols, is_candidate, can_stand}
use Rattle.vd_space.specs.Costs.{One, Pair}
use Rattle.vd_space.specs.Bounds.{lesser, least_below, only_if}
use Rattle.vd_space.proofs.Front.{listed_at}
use Rattle.vd_space_prefix.specs.Transfers.{by_place, least_where}
use Rattle.vd_space_prefix.proofs.Front.{same_least, size_by_place, at_place}
use Rattle.vd_search_tree.specs.declared.shift.Shift.{Shift}
use Rattle.vd_space.specs.Points.{Switch, States, at_point, is_setting, least_over, most_settings, points, switches}
use Rattle.vd_space.specs.Arcs.{arcs}
use Rattle.vd_space.specs.Network.{least_arc, least_point, network_one, network_pairs, no_parts_left}
use Rattle.vd_space.proofs.Front.{held}
use Rattle.vd_cost_network_prefix.specs.declared.made.ArcTable.{ArcTable}
use Rattle.vd_cost_network_prefix.specs.declared.made.PointTable.{PointTable}
use Rattle.vd_cost_network_prefix.specs.States.{AreArcTables, ArePointTables, AreSettings, count_of_points, arc_at, arc_part, point_at, point_part, settings}
use Rattle.vd_cost_network_prefix.proofs.Front.{pairs_size}
use Rattle.vd_cost_network_tables.specs.Tables.{arc_table, arc_tables_of, point_table, point_tables_of, tests_of}

-- ---- least numbers

lesser_none : (a : Option ℤ) → lesser a None ≡ a
lesser_none None = refl
lesser_none (Some a) = refl

least_none : (n p : ℕ) (value : ℕ → Option ℤ) → n ≤ p → least_below n (λ q. only_if (p == q) (value q)) ≡ None
least_none zero p value past = refl
least_none (suc n) p value past =
    ap₂ lesser (least_none n p value (omega (arith, past))) (cond-false (p == n) (value n) None (ne_eqb p n (λ same. absurd (omega (arith, same, past)))))

least_once : (n p : ℕ) (value : ℕ → Option ℤ) → p < n → least_below n (λ q. only_if (p == q) (value q)) ≡ value p
least_once zero p value low = absurd (omega (arith, low))
least_once (suc n) p value low = elim (cases_eq p n) [
  | inl same ↦
      ap₂ lesser (least_none n p value (omega (arith, same))) (cond-true (p == n) (value n) None (eq-eqb p n same))
      ∙ ap value (sym same)
  | inr other ↦
      ap₂ lesser (least_once n p value (omega (arith, other, low))) (cond-false (p == n) (value n) None (ne_eqb p n other))
      ∙ lesser_none (value p)
]

-- what is left out at the end
least_shorter : (n more : ℕ) (value : ℕ → Option ℤ) → ((k : ℕ) → n ≤ k → value k ≡ None) → least_below (more + n) value ≡ least_below n value
least_shorter n zero value none = let same : zero + n ≡ n = omega arith in ap (λ m. least_below m value) same
least_shorter n (suc more) value none =
    let next : suc more + n ≡ suc (more + n) = omega arith in
    ap (λ m. least_below m value) next
    ∙ ap₂ lesser (least_shorter n more value none) (none (more + n) (omega arith))
    ∙ lesser_none (least_below n value)

-- ---- the settings of a point

two_at : (v : ℕ) → v < 2 → get_or (true ∷ true ∷ []) v false ≡ nat_lt v 2
two_at zero low = refl
two_at (suc zero) low = refl
two_at (suc (suc v)) low = absurd (omega (arith, low))

candidate_listed : (problem : Problem) (slot v : ℕ) → IsTrue (is_candidate problem slot v) → v < length (protocols problem)
candidate_listed problem slot v is =
    let making = held (λ (making : Making). can_stand problem making v) (slice_get problem.slots slot) is in
    listed_at problem making.0 v making.2

no_candidate : (problem : Problem) (slot v : ℕ) → length (protocols problem) ≤ v → is_candidate problem slot v ≡ false
no_candidate problem slot v past = elim (cases_Bool (is_candidate problem slot v)) [
  | inl is ↦ let low = candidate_listed problem slot v is in absurd (omega (arith, low, past))
  | inr other ↦ other
]

-- its tests are of its settings
record HasTests (problem : Problem) (point : ℕ) : Type 0 where
  size : length (tests_of problem point) ≡ settings problem point
  few : settings problem point ≤ most_settings problem
  inside : (v : ℕ) → v < settings problem point → get_or (tests_of problem point) v false ≡ is_setting problem point v
  outside : (v : ℕ) → settings problem point ≤ v → is_setting problem point v ≡ false

-- a switch that is there, or none
record ItemTests (problem : Problem) (item : Option Switch) : Type 0 where
  size : length (option_map_or (λ (w : Switch). true ∷ true ∷ []) item []) ≡ option_map_or (λ (w : Switch). 2) item 0
  few : option_map_or (λ (w : Switch). 2) item 0 ≤ most_settings problem
  inside : (v : ℕ) → v < option_map_or (λ (w : Switch). 2) item 0 → get_or (option_map_or (λ (w : Switch). true ∷ true ∷ []) item []) v false ≡ option_map_or (λ (w : Switch). nat_lt v 2) item false
  outside : (v : ℕ) → option_map_or (λ (w : Switch). 2) item 0 ≤ v → option_map_or (λ (w : Switch). nat_lt v 2) item false ≡ false

item_tests : (problem : Problem) (item : Option Switch) → ItemTests problem item
item_tests problem None = record { size = refl; few = omega arith; inside = λ v low. absurd (omega (arith, low)); outside = λ v past. refl }
item_tests problem (Some w) = record { size = refl; few = omega arith; inside = two_at; outside = λ v past. le-ltb v 2 past }

module _ (problem : Problem) (point : ℕ) where
  abbrev many : ℕ
  many = length (protocols problem)

  tests_at : ((point < length problem.slots) × (tests_of problem point ≡ by_place many (is_candidate problem point)))
      → settings problem point ≡ many → ((v : ℕ) → is_setting problem point v ≡ is_candidate problem point v) → HasTests problem point
  tests_at tests count each = record {
    size = ap length tests.1 ∙ size_by_place many (is_candidate problem point) ∙ sym count;
    few = omega (arith, count);
    inside = λ v low. ap (λ list. get_or list v false) tests.1 ∙ at_place many (is_candidate problem point) v false (omega (arith, low, count)) ∙ sym (each v);
    outside = λ v past. each v ∙ no_candidate problem point v (omega (arith, past, count));
  }

  tests_behind : (item : Option Switch) → tests_of problem point ≡ option_map_or (λ (w : Switch). true ∷ true ∷ []) item [] → settings problem point ≡ option_map_or (λ (w : Switch). 2) item 0
      → ((v : ℕ) → is_setting problem point v ≡ option_map_or (λ (w : Switch). nat_lt v 2) item false) → HasTests problem point
  tests_behind item tests count each =
      let are = item_tests problem item in
      record {
        size = ap length tests ∙ are.size ∙ sym count;
        few = subst (λ n. n ≤ most_settings problem) (sym count) are.few;
        inside = λ v low. ap (λ list. get_or list v false) tests ∙ are.inside v (subst (λ n. v < n) count low) ∙ sym (each v);
        outside = λ v past. each v ∙ are.outside v (subst (λ n. n ≤ v) count past);
      }

  has_tests : HasTests problem point
  has_tests = elim (cases_lt point (length problem.slots)) [
    | inl low ↦ tests_at (low, front (λ slot. by_place many (is_candidate problem slot)) (λ switch. true ∷ true ∷ []) [] low)
        (front (λ slot. many) (λ switch. 2) 0 low)
        (λ v. front (λ slot. is_candidate problem slot v) (λ switch. nat_lt v 2) false low)
    | inr past ↦ tests_behind (slice_get (switches problem) (point - length problem.slots)) (back (λ slot. by_place many (is_candidate problem slot)) (λ switch. true ∷ true ∷ []) [] past)
        (back (λ slot. many) (λ switch. 2) 0 past)
        (λ v. back (λ slot. is_candidate problem slot v) (λ switch. nat_lt v 2) false past)
  ]
    where
      front : {X : Type 0} (slot : ℕ → X) (switch : Switch → X) (none : X) → point < length problem.slots → at_point problem slot switch none point ≡ slot point
      front slot switch none low =
          cond-true (nat_lt point (length problem.slots)) (slot point) (option_map_or switch (slice_get (switches problem) (point - length problem.slots)) none) (lt-ltb point (length problem.slots) low)

      back : {X : Type 0} (slot : ℕ → X) (switch : Switch → X) (none : X) → length problem.slots ≤ point → at_point problem slot switch none point ≡ option_map_or switch (slice_get (switches problem) (point - length problem.slots)) none
      back slot switch none past =
          cond-false (nat_lt point (length problem.slots)) (slot point) (option_map_or switch (slice_get (switches problem) (point - length problem.slots)) none) (le-ltb point (length problem.slots) past)

pub tests_size : (problem : Problem) (point : ℕ) → length (tests_of problem point) ≡ settings problem point
tests_size problem point = (has_tests problem point).size

-- ---- the least over a point's settings

module _ (problem : Problem) (states : States) (point : ℕ) where
  least_free : (value other : ℕ → Option ℤ) → states point ≡ None → ((v : ℕ) → v < settings problem point → other v ≡ value v) → least_where (tests_of problem point) other ≡ least_over problem states point value
  least_free value other none same =
      let has = has_tests problem point in
      let n = settings problem point in
      let more = most_settings problem - n in
      let few = has.few in
      let whole : more + n ≡ most_settings problem = omega (arith, few) in
      ap (λ k. least_below k (λ v. only_if (get_or (tests_of problem point) v false) (other v))) has.size
      ∙ same_least n (λ v. only_if (get_or (tests_of problem point) v false) (other v)) (λ v. only_if (is_setting problem point v) (value v)) (λ v low. ap₂ only_if (has.inside v low) (same v low))
      ∙ sym (least_shorter n more (λ v. only_if (is_setting problem point v) (value v)) (λ v past. cond-false (is_setting problem point v) (value v) None (has.outside v past)))
      ∙ ap (λ k. least_below k (λ v. only_if (is_setting problem point v) (value v))) whole
      ∙ ap (λ item. least_below (most_settings problem) (λ v. only_if (option_map_or (λ w. w == v) item (is_setting problem point v)) (value v))) (sym none)

  least_at : (value : ℕ → Option ℤ) (v : ℕ) → states point ≡ Some v → v < settings problem point → least_over problem states point value ≡ value v
  least_at value v is low =
      let has = has_tests problem point in
      let few = has.few in
      ap (λ item. least_below (most_settings problem) (λ w. only_if (option_map_or (λ r. r == w) item (is_setting problem point w)) (value w))) is
      ∙ least_once (most_settings problem) v value (omega (arith, few, low))

-- ---- tables

module _ (problem : Problem) (states : States) (are : AreSettings problem states) where
  point_by : (one : One) (state : Option ℕ) → states one.slot ≡ state → point_at (point_table problem one) state ≡ least_point problem states one
  point_by one None is = ap (λ o. unwrap_or o no_parts_left) (least_free problem states one.slot one.value one.value is (λ v low. refl))
  point_by one (Some v) is =
      let low = are one.slot v is in
      let size = (has_tests problem one.slot).size in
      at_place (length (tests_of problem one.slot)) (λ w. unwrap_or (one.value w) no_parts_left) v (pos 0) (omega (arith, low, size))
      ∙ ap (λ o. unwrap_or o no_parts_left) (sym (least_at problem states one.slot one.value v is low))

  arc_by : (arc : Pair) (first second : Option ℕ) → states arc.first ≡ first → states arc.second ≡ second → arc_at (arc_table problem arc) first second ≡ least_arc problem states arc
  arc_by arc None None is there =
      ap (λ o. unwrap_or o no_parts_left)
      (least_free problem states arc.first (λ v. least_over problem states arc.second (arc.value v)) (λ v. least_where (tests_of problem arc.second) (arc.value v)) is
      (λ v low. least_free problem states arc.second (arc.value v) (arc.value v) there (λ w low_w. refl)))
  arc_by arc (Some v) None is there =
      let low = are arc.first v is in
      let size = (has_tests problem arc.first).size in
      at_place (length (tests_of problem arc.first)) (λ r. unwrap_or (least_where (tests_of problem arc.second) (arc.value r)) no_parts_left) v (pos 0) (omega (arith, low, size))
      ∙ ap (λ o. unwrap_or o no_parts_left)
      (least_free problem states arc.second (arc.value v) (arc.value v) there (λ w low_w. refl)
      ∙ sym (least_at problem states arc.first (λ r. least_over problem states arc.second (arc.value r)) v is low))
  arc_by arc None (Some w) is there =
      let low = are arc.second w there in
      let size = (has_tests problem arc.second).size in
      at_place (length (tests_of problem arc.second)) (λ q. unwrap_or (least_where (tests_of problem arc.first) (λ r. arc.value r q)) no_parts_left) w (pos 0) (omega (arith, low, size))
      ∙ ap (λ o. unwrap_or o no_parts_left)
      (least_free problem states arc.first (λ r. least_over problem states arc.second (arc.value r)) (λ r. arc.value r w) is (λ r low_r. sym (least_at problem states arc.second (arc.value r) w there low)))
  arc_by arc (Some v) (Some w) is there =
      let low = are arc.first v is in
      let low_w = are arc.second w there in
      let size = (has_tests problem arc.first).size in
      let size_w = (has_tests problem arc.second).size in
      ap (λ row. unwrap_or (get_or row w None) no_parts_left)
      (at_place (length (tests_of problem arc.first)) (λ r. by_place (length (tests_of problem arc.second)) (arc.value r)) v [] (omega (arith, low, size)))
      ∙ ap (λ o. unwrap_or o no_parts_left)
      (at_place (length (tests_of problem arc.second)) (arc.value v) w None (omega (arith, low_w, size_w))
      ∙ sym (least_at problem states arc.second (arc.value v) w there low_w)
      ∙ sym (least_at problem states arc.first (λ r. least_over problem states arc.second (arc.value r)) v is low))

-- ---- all tables

got_map : {X Y : Type 0} (f : X → Y) (xs : List X) (k : ℕ) (x : X) → slice_get xs k ≡ Some x → slice_get (map f xs) k ≡ Some (f x)
got_map f [] k x is = cc
got_map f (y ∷ xs) zero x is = let same : y ≡ x = cc in ap (λ z. Some (f z)) same
got_map f (y ∷ xs) (suc k) x is = got_map f xs k x is

pub arc_tables_are : (problem : Problem) (shifts : List Shift) (tables : List ArcTable) → tables ≡ arc_tables_of problem shifts → AreArcTables problem shifts tables
arc_tables_are problem shifts tables same =
    let pairs = network_pairs shifts 0 (arcs problem) in
    record {
      size = ap length same ∙ length-map pairs (arc_table problem) ∙ pairs_size shifts 0 (arcs problem);
      least = λ states are number arc at.
          ap (λ list. arc_part list states number) same
          ∙ ap (λ o. option_map_or (λ (table : ArcTable). arc_at table (states table.first) (states table.second)) o (pos 0)) (got_map (arc_table problem) pairs number arc at)
          ∙ arc_by problem states are arc (states arc.first) (states arc.second) refl refl;
    }

number_at : (first count k : ℕ) → k < count → slice_get (range_with_len first count) k ≡ Some (first + k)
number_at first zero k low = absurd (omega (arith, low))
number_at first (suc count) zero low = ap Some (omega arith)
number_at first (suc count) (suc k) low = number_at (first + 1) count k (omega (arith, low)) ∙ ap Some (omega arith)

pub point_tables_are : (problem : Problem) (shifts : List Shift) (tables : List PointTable) → tables ≡ point_tables_of problem shifts → ArePointTables problem shifts tables
point_tables_are problem shifts tables same =
    let ones = map (network_one problem shifts) (points problem) in
    record {
      size = ap length same ∙ length-map ones (point_table problem) ∙ length-map (points problem) (network_one problem shifts) ∙ length-range_with_len 0 (count_of_points problem);
      least = λ states are point low.
          let one = network_one problem shifts point in
          let zero_on : 0 + point ≡ point = omega arith in
          let at : slice_get (points problem) point ≡ Some point = number_at 0 (count_of_points problem) point low ∙ ap Some zero_on in
          ap (λ list. point_part list states point) same
          ∙ ap (λ o. option_map_or (λ (table : PointTable). point_at table (states point)) o (pos 0)) (got_map (point_table problem) ones point one (got_map (network_one problem shifts) (points problem) point point at))
          ∙ point_by problem states are one (states point) refl;
    }

-- ---- tables by lists of values

pub least_where_same : (tests : List Bool) (f g : ℕ → Option ℤ) → ((k : ℕ) → k < length tests → f k ≡ g k) → least_where tests f ≡ least_where tests g
least_where_same tests f g same = same_least (length tests) (λ k. only_if (get_or tests k false) (f k)) (λ k. only_if (get_or tests k false) (g k)) (λ k low. ap (only_if (get_or tests k false)) (same k low))
