-- Tables are made of small numbers.
use Rattle.std.proofs.Common.{◌≡◌, ℕ, zero, suc, ◌+◌, ◌*◌, ◌<◌, ◌≤◌, Bool, true, false, ◌&&◌, cond, Option, Some, None, List, [], ◌∷◌, length, map, get_or, refl, sym, ap, ◌∙◌, subst, arith, mul-le-mul, ℤ, pos, ◌-ℤ◌, option_map, inl, inr, slice_get}
use Rattle.std.specs.Prelude.{unwrap_or, IfSome, ◌==◌}
use Rattle.std.specs.List.{AllByRecursion}
use Rattle.std.proofs.lemmas.Int.{ints, int_min_is}
use Rattle.std.proofs.lemmas.List.{get_or_past, get_or-map, length-map}
use Rattle.std.proofs.lemmas.List.Elements.{recursion_from_All}
use Rattle.vd_search_tree.specs.declared.shift.Shift.{Shift}
use Rattle.vd_base.specs.declared.ids.SlotId.{SlotId}
use Rattle.vd_space.specs.declared.problem.Problem.{Problem}
use Rattle.vd_space.specs.declared.problem.Use.{Use}
use Rattle.vd_space.specs.declared.problem.Index.{Index}
use Rattle.vd_space.specs.declared.problem.Guard.{Guard}
use Rattle.vd_space.specs.Labelled.{IsLabelled}
use Rattle.vd_space.specs.Sizes.{IsWithinLimits}
use Rattle.vd_space.specs.Validity.{all_hosts, holds_at, move_to_host, protocol, move}
use Rattle.vd_space.specs.Costs.{Pair, weigh, total, pairs, use_term, index_term, hosts_at, moves_to}
use Rattle.vd_space.specs.Bounds.{lesser, least_below, only_if, signed, use_shift}
use Rattle.vd_space.proofs.Front.{listed_or_not, small, told_price, index_price, move_price, each_leads, each_map, each_append, each_at}
use Rattle.vd_space_prefix.specs.Transfers.{IsWithin, by_place, least_where}
use Rattle.vd_space_prefix.proofs.Front.{size_by_place, at_place}
use Rattle.vd_space_tables.proofs.Front.{if_within, place_within, whole_within}
use Rattle.vd_space.specs.Points.{Switch, switch_of, switches, members, off}
use Rattle.vd_space.specs.Arcs.{parts, in_parts, member_arc, switch_arcs, arcs_from, arcs}
use Rattle.vd_space.specs.Network.{network_pair, network_pairs, no_parts_left}
use Rattle.vd_space.proofs.Front.{each_flat}
use Rattle.vd_cost_network_prefix.specs.States.{AreSmallArcs, IsSmallArc, IsSmallPoint, settings}
use Rattle.vd_cost_network_tables.specs.declared.raw.RawArc.{RawArc}
use Rattle.vd_space_tables.specs.Sums.{AreSmallShifts}
use Rattle.vd_cost_network_tables.specs.Tables.{arc_table, arc_table_of, arc_tables_of, point_table_of, raw_arc, tests_of}

-- ---- options

abbrev IsSmall : Option ℤ → Type 0
IsSmall o = IfSome o (IsWithin 1125899906842624)

lesser_small : (a b : Option ℤ) → IsSmall a → IsSmall b → IsSmall (lesser a b)
lesser_small None b first second = second
lesser_small (Some a) None first second = first
lesser_small (Some a) (Some b) first second =
    let least = int_min_is a b in
    record { low = omega (arith, ints, least, first.low, second.low); high = omega (arith, ints, least, first.high, second.high) }

least_small : (n : ℕ) (f : ℕ → Option ℤ) → ((k : ℕ) → IsSmall (f k)) → IsSmall (least_below n f)
least_small zero f each = tt
least_small (suc n) f each = lesser_small (least_below n f) (f n) (least_small n f each) (each n)

only_small : (test : Bool) (o : Option ℤ) → IsSmall o → IsSmall (only_if test o)
only_small true o is = is
only_small false o is = tt

where_small : (tests : List Bool) (f : ℕ → Option ℤ) → ((k : ℕ) → IsSmall (f k)) → IsSmall (least_where tests f)
where_small tests f each = least_small (length tests) (λ k. only_if (get_or tests k false) (f k)) (λ k. only_small (get_or tests k false) (f k) (each k))

number_small : (o : Option ℤ) → IsSmall o → IsWithin 1125899906842624 (unwrap_or o no_parts_left)
number_small None is = record { low = omega (arith, ints); high = omega (arith, ints) }
number_small (Some v) is = is

-- ---- tables

cell_small : (n m : ℕ) (value : ℕ → ℕ → Option ℤ) → ((v w : ℕ) → IsSmall (value v w)) → (v w : ℕ) → IsSmall (get_or (get_or (by_place n (λ r. by_place m (value r))) v []) w None)
cell_small n m value each v w = elim (listed_or_not n v) [
  | inl low ↦ elim (listed_or_not m w) [
    | inl low_w ↦ subst IsSmall (sym (ap (λ row. get_or row w None) (at_place n (λ r. by_place m (value r)) v [] low) ∙ at_place m (value v) w None low_w)) (each v w)
    | inr past ↦ subst IsSmall (sym (ap (λ row. get_or row w None) (at_place n (λ r. by_place m (value r)) v [] low) ∙ get_or_past (by_place m (value v)) w None (subst (λ k. k ≤ w) (sym (size_by_place m (value v))) past))) tt
  ]
  | inr past ↦ subst IsSmall (sym (ap (λ row. get_or row w None) (get_or_past (by_place n (λ r. by_place m (value r))) v [] (subst (λ k. k ≤ v) (sym (size_by_place n (λ r. by_place m (value r)))) past)))) tt
]

arc_table_small : (first second : ℕ) (firsts seconds : List Bool) (value : ℕ → ℕ → Option ℤ) → ((v w : ℕ) → IsSmall (value v w)) → IsSmallArc (arc_table_of first second firsts seconds value)
arc_table_small first second firsts seconds value each =
    let row : (v : ℕ) → IsSmall (least_where seconds (value v)) = λ v. where_small seconds (value v) (each v) in
    let column : (w : ℕ) → IsSmall (least_where firsts (λ v. value v w)) = λ w. where_small firsts (λ v. value v w) (λ v. each v w) in
    let square : IsSmall (least_where firsts (λ v. least_where seconds (value v))) = where_small firsts (λ v. least_where seconds (value v)) row in
    record {
      cells = λ v w. number_small (get_or (get_or (by_place (length firsts) (λ r. by_place (length seconds) (value r))) v []) w None) (cell_small (length firsts) (length seconds) value each v w);
      rows = λ v. place_within 1125899906842624 (length firsts) (λ r. unwrap_or (least_where seconds (value r)) no_parts_left) v (λ r low. number_small (least_where seconds (value r)) (row r));
      columns = λ w. place_within 1125899906842624 (length seconds) (λ r. unwrap_or (least_where firsts (λ v. value v r)) no_parts_left) w (λ r low. number_small (least_where firsts (λ v. value v r)) (column r));
      both = number_small (least_where firsts (λ v. least_where seconds (value v))) square;
    }

pub point_table_small : (tests : List Bool) (value : ℕ → Option ℤ) → ((v : ℕ) → IsSmall (value v)) → IsSmallPoint (point_table_of tests value)
point_table_small tests value each = record {
  costs = λ v. place_within 1125899906842624 (length tests) (λ r. unwrap_or (value r) no_parts_left) v (λ r low. number_small (value r) (each r));
  free = number_small (least_where tests value) (where_small tests value each);
}

-- ---- arcs without shifts

-- 2^49, so that there is room for shifts
abbrev IsLight : Pair → Type 0
IsLight arc = (v w : ℕ) → IfSome (arc.value v w) (IsWithin 562949953421312)

scaled_light : (weight : ℕ) (price : Option ℕ) → weight ≤ 65536 → unwrap_or price 0 ≤ 848 → IfSome (parts (weigh weight price)) (IsWithin 562949953421312)
scaled_light weight None light cheap = tt
scaled_light weight (Some c) light cheap =
    let product : weight * c ≤ 65536 * 848 = mul-le-mul light cheap in
    record { low = omega (arith, ints); high = omega (arith, ints, product) }

zero_light : IsWithin 562949953421312 (pos 0)
zero_light = record { low = omega (arith, ints); high = omega (arith, ints) }

off_or : (test : Bool) (o : Option ℤ) → IfSome o (IsWithin 562949953421312) → IfSome (cond test (Some (pos 0)) o) (IsWithin 562949953421312)
off_or true o is = zero_light
off_or false o is = is

none_or : (test : Bool) → IfSome (cond test None (Some (pos 0))) (IsWithin 562949953421312)
none_or true = tt
none_or false = zero_light

every : {X : Type 0} (P : X → Type 0) → ((x : X) → P x) → (xs : List X) → AllByRecursion P xs
every P holds [] = tt
every P holds (x ∷ xs) = (holds x, every P holds xs)

module _ (problem : Problem) (labelled : IsLabelled problem) (limits : IsWithinLimits problem) where
  use_light : (u : Use) → u.weight ≤ 65536 → IsLight (in_parts (use_term problem u))
  use_light u light v w =
      let price = move_price (protocol problem v) (protocol problem w) (small problem labelled.few_hosts v) (small problem labelled.few_hosts w) in
      scaled_light u.weight (move problem v w) light (omega (arith, price))

  index_light : (i : Index) → i.weight ≤ 65536 → IsLight (in_parts (index_term problem i))
  index_light i light v w = scaled_light i.weight (moves_to problem w (hosts_at problem v)) light (index_price problem labelled.few_hosts v w)

  pairs_light : AllByRecursion IsLight (map in_parts (pairs problem))
  pairs_light =
      each_map IsLight in_parts (pairs problem)
      (each_append (λ pair. IsLight (in_parts pair)) (map (use_term problem) problem.uses) (map (index_term problem) problem.indexes)
      (each_map (λ pair. IsLight (in_parts pair)) (use_term problem) problem.uses (each_leads (λ (u : Use). u.weight ≤ 65536) (λ u. IsLight (in_parts (use_term problem u))) use_light problem.uses (recursion_from_All (λ (u : Use). u.weight ≤ 65536) problem.uses limits.uses)))
      (each_map (λ pair. IsLight (in_parts pair)) (index_term problem) problem.indexes (each_leads (λ (i : Index). i.weight ≤ 65536) (λ i. IsLight (in_parts (index_term problem i))) index_light problem.indexes (recursion_from_All (λ (i : Index). i.weight ≤ 65536) problem.indexes limits.indexes))))

  switch_light : (point : ℕ) (w : Switch) → w.guard.weight ≤ 65536 → AllByRecursion IsLight (switch_arcs problem point w)
  switch_light point w light = (
    λ p v. off_or (v == off) (parts (weigh w.guard.weight (move_to_host problem w.host p))) (let price = told_price problem labelled.few_hosts w.host p in scaled_light w.guard.weight (move_to_host problem w.host p) light (omega (arith, price))),
    each_map IsLight (member_arc problem point w.host) (members problem w) (every (λ (slot : SlotId). IsLight (member_arc problem point w.host slot)) (λ slot p v. none_or (v == off && holds_at problem w.host p)) (members problem w)),
  )

  from_light : (point : ℕ) (ws : List Switch) → AllByRecursion (λ (w : Switch). w.guard.weight ≤ 65536) ws → AllByRecursion IsLight (arcs_from problem point ws)
  from_light point [] each = tt
  from_light point (w ∷ ws) each = each_append IsLight (switch_arcs problem point w) (arcs_from problem (point + 1) ws) (switch_light point w each.0) (from_light (point + 1) ws each.1)

  switches_light : AllByRecursion (λ (w : Switch). w.guard.weight ≤ 65536) (switches problem)
  switches_light =
      each_flat (λ (w : Switch). w.guard.weight ≤ 65536) (λ guard. map (switch_of guard) (all_hosts problem)) problem.guards
      (each_leads (λ (guard : Guard). guard.weight ≤ 65536) (λ guard. AllByRecursion (λ (w : Switch). w.guard.weight ≤ 65536) (map (switch_of guard) (all_hosts problem)))
      (λ guard light. each_map (λ (w : Switch). w.guard.weight ≤ 65536) (switch_of guard) (all_hosts problem) (every (λ h. guard.weight ≤ 65536) (λ h. light) (all_hosts problem)))
      problem.guards (recursion_from_All (λ (guard : Guard). guard.weight ≤ 65536) problem.guards limits.guards))

  arcs_light : AllByRecursion IsLight (arcs problem)
  arcs_light = each_append IsLight (map in_parts (pairs problem)) (arcs_from problem (length problem.slots) (switches problem)) pairs_light (from_light (length problem.slots) (switches problem) switches_light)

-- ---- arcs under shifts

less_small : (o : Option ℤ) (z : ℤ) → IfSome o (IsWithin 562949953421312) → IsWithin 562949953421312 z → IsSmall (option_map (λ c. c -ℤ z) o)
less_small None z light small = tt
less_small (Some c) z light small =
    let low = light.low in
    let high = light.high in
    let small_low = small.low in
    let small_high = small.high in
    record { low = omega (arith, ints, low, small_high); high = omega (arith, ints, high, small_low) }

module _ (problem : Problem) (shifts : List Shift) (few : length shifts ≤ 131072) (amounts : AreSmallShifts shifts) where
  shifted_small : (at : ℕ) (arc : Pair) → IsLight arc → (v w : ℕ) → IsSmall ((network_pair shifts at arc).value v w)
  shifted_small at arc light v w =
      less_small (arc.value v w) (total (use_shift at v w) shifts) (light v w)
      (whole_within (use_shift at v w) shifts few amounts (λ shift low. if_within (shift.at == at && shift.proto == cond (shift.side == 0) v w) (signed shift) low))

  tables_small : (at : ℕ) (arcs : List Pair) → AllByRecursion IsLight arcs → (number : ℕ) → IfSome (slice_get (map (arc_table problem) (network_pairs shifts at arcs)) number) IsSmallArc
  tables_small at [] light number = tt
  tables_small at (arc ∷ arcs) light zero =
      arc_table_small arc.first arc.second (tests_of problem arc.first) (tests_of problem arc.second) (network_pair shifts at arc).value (shifted_small at arc light.0)
  tables_small at (arc ∷ arcs) light (suc number) = tables_small (at + 1) arcs light.1 number

  pub arc_tables_small : IsLabelled problem → IsWithinLimits problem → AreSmallArcs (arc_tables_of problem shifts)
  arc_tables_small labelled limits = tables_small 0 (arcs problem) (arcs_light problem labelled limits)

-- ---- arcs without shifts, as they are made

abbrev Fits49 : Option ℤ → Type 0
Fits49 o = IsWithin 562949953421312 (unwrap_or o (pos 0))

fits : (o : Option ℤ) → IfSome o (IsWithin 562949953421312) → Fits49 o
fits None is = zero_light
fits (Some z) is = is

cell_light : (n m : ℕ) (value : ℕ → ℕ → Option ℤ) → ((v w : ℕ) → IfSome (value v w) (IsWithin 562949953421312)) → (v w : ℕ) → Fits49 (get_or (get_or (by_place n (λ r. by_place m (value r))) v []) w None)
cell_light n m value each v w = elim (listed_or_not n v) [
  | inl low ↦ elim (listed_or_not m w) [
    | inl low_w ↦ subst Fits49 (sym (ap (λ row. get_or row w None) (at_place n (λ r. by_place m (value r)) v [] low) ∙ at_place m (value v) w None low_w)) (fits (value v w) (each v w))
    | inr past ↦ subst Fits49 (sym (ap (λ row. get_or row w None) (at_place n (λ r. by_place m (value r)) v [] low) ∙ get_or_past (by_place m (value v)) w None (subst (λ k. k ≤ w) (sym (size_by_place m (value v))) past))) zero_light
  ]
  | inr past ↦ subst Fits49 (sym (ap (λ row. get_or row w None) (get_or_past (by_place n (λ r. by_place m (value r))) v [] (subst (λ k. k ≤ v) (sym (size_by_place n (λ r. by_place m (value r)))) past)))) zero_light
]

pub raw_light : (problem : Problem) → IsLabelled problem → IsWithinLimits problem → (raws : List RawArc) (raw : RawArc) (k : ℕ) → raws ≡ map (raw_arc problem) (arcs problem) → k < length raws → raw ≡ get_or raws k raw
    → (v w : ℕ) → IsWithin 562949953421312 (unwrap_or (get_or (get_or raw.cells v []) w None) (pos 0))
raw_light problem labelled limits raws raw k are low is v w =
    let size = ap length are ∙ length-map (arcs problem) (raw_arc problem) in
    let low_arc : k < length (arcs problem) = omega (arith, size, low) in
    let arc : Pair = get_or (arcs problem) k none in
    let raw_is : raw ≡ raw_arc problem arc = is ∙ ap (λ (rs : List RawArc). get_or rs k raw) are ∙ get_or-map (raw_arc problem) (arcs problem) k none raw low_arc in
    let at : slice_get (arcs problem) k ≡ Some arc = slice_get_at (arcs problem) k none low_arc in
    subst (λ (r : RawArc). Fits49 (get_or (get_or r.cells v []) w None)) (sym raw_is)
    (cell_light (settings problem arc.first) (settings problem arc.second) arc.value (each_at IsLight (arcs problem) k arc at (arcs_light problem labelled limits)) v w)
  where
    none : Pair
    none = record { first = 0; second = 0; value = λ p q. None }

    slice_get_at : (xs : List Pair) (i : ℕ) (d : Pair) → i < length xs → slice_get xs i ≡ Some (get_or xs i d)
    slice_get_at [] i d less = absurd (omega (arith, less))
    slice_get_at (x ∷ xs) zero d less = refl
    slice_get_at (x ∷ xs) (suc i) d less = slice_get_at xs i d (omega (arith, less))
