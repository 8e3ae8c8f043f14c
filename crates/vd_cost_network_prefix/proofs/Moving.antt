-- What all points and arcs come to, where one point is decided anew.
use Rattle.std.proofs.Common.{◌≡◌, ℕ, zero, suc, ◌+◌, ◌*◌, ◌<◌, ◌≤◌, Bool, false, Option, Some, None, List, [], ◌∷◌, length, set, get_or, get_or-set_other, refl, sym, ap, ap₂, ◌∙◌, subst, arith, ℤ, pos, ◌+ℤ◌, ◌-ℤ◌, inl, inr, slice_get}
use Rattle.std.specs.Prelude.{IfSome, ◌==◌}
use Rattle.std.specs.List.{range_with_len}
use Rattle.std.specs.Option.{option_map_or}
use Rattle.std.proofs.lemmas.Int.{ints}
use Rattle.std.proofs.lemmas.Bool.{cases_Bool, cases_eq, cond-true, cond-false, or_parts, ne_eqb, eqb-false}
use Rattle.vd_space.specs.Costs.{total}
use Rattle.vd_space_prefix.specs.Naming.{numbers_from}
use Rattle.vd_space_prefix.specs.Transfers.{IsWithin}
use Rattle.vd_space.specs.Points.{States}
use Rattle.vd_cost_network_prefix.specs.declared.made.PointTable.{PointTable}
use Rattle.vd_cost_network_prefix.specs.declared.made.ArcTable.{ArcTable}
use Rattle.vd_cost_network_prefix.specs.declared.made.NetworkTables.{NetworkTables}
use Rattle.vd_cost_network_prefix.specs.Reach.{has_end, arcs_at}
use Rattle.vd_cost_network_prefix.specs.States.{AreSmallTables, IsSmallArc, IsSmallPoint, as_states, arc_at, arc_part, parts_by, point_at, point_part}

-- ---- sums of two functions that differ at few numbers

module _ (f g : ℕ → ℤ) (p : ℕ) (same : (k : ℕ) → (k == p) ≡ false → f k ≡ g k) where
  none_changes : (first n : ℕ) → p < first → total f (range_with_len first n) ≡ total g (range_with_len first n)
  none_changes first zero low = refl
  none_changes first (suc n) low =
      let here = same first (ne_eqb first p (λ is. absurd (omega (arith, low, is)))) in
      let rest = none_changes (first + 1) n (omega (arith, low)) in
      omega (arith, ints, here, rest)

  one_changes : (first n : ℕ) → first ≤ p → p < first + n → total f (range_with_len first n) +ℤ g p ≡ total g (range_with_len first n) +ℤ f p
  one_changes first zero low high = absurd (omega (arith, low, high))
  one_changes first (suc n) low high = elim (cases_eq first p) [
    | inl is ↦
        let at_f = ap f is in
        let at_g = ap g is in
        let rest = none_changes (first + 1) n (omega (arith, is)) in
        omega (arith, ints, at_f, at_g, rest)
    | inr other ↦
        let here = same first (ne_eqb first p other) in
        let rest = one_changes (first + 1) n (omega (arith, low, other)) (omega (arith, high)) in
        omega (arith, ints, here, rest)
  ]

module _ {X : Type 0} (test : X → Bool) (f g : ℕ → ℤ) where
  some_change : (first : ℕ) (xs : List X) → ((k : ℕ) (x : X) → slice_get xs k ≡ Some x → test x ≡ false → f (first + k) ≡ g (first + k))
      → total f (range_with_len first (length xs)) +ℤ total g (numbers_from test first xs) ≡ total g (range_with_len first (length xs)) +ℤ total f (numbers_from test first xs)
  some_change first [] same = refl
  some_change first (x ∷ xs) same =
      let later : (k : ℕ) (y : X) → slice_get xs k ≡ Some y → test y ≡ false → f (first + 1 + k) ≡ g (first + 1 + k) = λ k y at fails. subst (λ j. f j ≡ g j) (omega arith) (same (suc k) y at fails) in
      let rest = some_change (first + 1) xs later in
      elim (cases_Bool (test x)) [
        | inl passes ↦
            let of_f = ap (total f) (cond-true (test x) (first ∷ numbers_from test (first + 1) xs) (numbers_from test (first + 1) xs) passes) in
            let of_g = ap (total g) (cond-true (test x) (first ∷ numbers_from test (first + 1) xs) (numbers_from test (first + 1) xs) passes) in
            omega (arith, ints, rest, of_f, of_g)
        | inr fails ↦
            let of_f = ap (total f) (cond-false (test x) (first ∷ numbers_from test (first + 1) xs) (numbers_from test (first + 1) xs) fails) in
            let of_g = ap (total g) (cond-false (test x) (first ∷ numbers_from test (first + 1) xs) (numbers_from test (first + 1) xs) fails) in
            let here : f first ≡ g first = subst (λ j. f j ≡ g j) (omega arith) (same 0 x refl fails) in
            omega (arith, ints, rest, of_f, of_g, here)
      ]

-- ---- a point that is decided anew

module _ (tables : NetworkTables) (old new : States) (point : ℕ) (same : (k : ℕ) → (k == point) ≡ false → new k ≡ old k) where
  same_point : (k : ℕ) → (k == point) ≡ false → point_part tables.points new k ≡ point_part tables.points old k
  same_point k other = ap (λ state. option_map_or (λ (table : PointTable). point_at table state) (slice_get tables.points k) (pos 0)) (same k other)

  same_arc : (k : ℕ) (table : ArcTable) → slice_get tables.arcs k ≡ Some table → has_end point table ≡ false → arc_part tables.arcs new k ≡ arc_part tables.arcs old k
  same_arc k table at other =
      let parts = or_parts (table.first == point) (table.second == point) other in
      ap (λ o. option_map_or (λ (t : ArcTable). arc_at t (new t.first) (new t.second)) o (pos 0)) at
      ∙ ap₂ (arc_at table) (same table.first parts.0) (same table.second parts.1)
      ∙ sym (ap (λ o. option_map_or (λ (t : ArcTable). arc_at t (old t.first) (old t.second)) o (pos 0)) at)

  -- what the point and its arcs come to is what the sum changes by
  parts_move : point < length tables.points → parts_by tables new
      ≡ parts_by tables old +ℤ ((point_part tables.points new point +ℤ total (arc_part tables.arcs new) (arcs_at tables.arcs point)) -ℤ (point_part tables.points old point +ℤ total (arc_part tables.arcs old) (arcs_at tables.arcs point)))
  parts_move low =
      let points = one_changes (point_part tables.points new) (point_part tables.points old) point same_point 0 (length tables.points) (omega arith) (omega (arith, low)) in
      let start : (k : ℕ) → k ≡ 0 + k = λ k. omega arith in
      let each : (k : ℕ) (table : ArcTable) → slice_get tables.arcs k ≡ Some table → has_end point table ≡ false → arc_part tables.arcs new (0 + k) ≡ arc_part tables.arcs old (0 + k) =
      λ k table at other. subst (λ j. arc_part tables.arcs new j ≡ arc_part tables.arcs old j) (start k) (same_arc k table at other) in
      let arcs = some_change (has_end point) (arc_part tables.arcs new) (arc_part tables.arcs old) 0 tables.arcs each in
      omega (arith, ints, points, arcs)

-- ---- small numbers

small_sum : (f : ℕ → ℤ) → ((k : ℕ) → IsWithin 1125899906842624 (f k)) → (first n : ℕ) → IsWithin (1125899906842624 * n) (total f (range_with_len first n))
small_sum f small first zero = record { low = omega (arith, ints); high = omega (arith, ints) }
small_sum f small first (suc n) =
    let rest = small_sum f small (first + 1) n in
    let rest_low = rest.low in
    let rest_high = rest.high in
    let here_low = (small first).low in
    let here_high = (small first).high in
    record { low = omega (arith, ints, rest_low, rest_high, here_low, here_high); high = omega (arith, ints, rest_low, rest_high, here_low, here_high) }

nothing_small : IsWithin 1125899906842624 (pos 0)
nothing_small = record { low = omega (arith, ints); high = omega (arith, ints) }

small_point : (item : Option PointTable) → IfSome item IsSmallPoint → (state : Option ℕ) → IsWithin 1125899906842624 (option_map_or (λ (table : PointTable). point_at table state) item (pos 0))
small_point None small state = nothing_small
small_point (Some table) small None = small.free
small_point (Some table) small (Some v) = small.costs v

small_ends : (table : ArcTable) → IsSmallArc table → (first second : Option ℕ) → IsWithin 1125899906842624 (arc_at table first second)
small_ends table small None None = small.both
small_ends table small (Some v) None = small.rows v
small_ends table small None (Some w) = small.columns w
small_ends table small (Some v) (Some w) = small.cells v w

small_arc : (item : Option ArcTable) → IfSome item IsSmallArc → (states : States) → IsWithin 1125899906842624 (option_map_or (λ (table : ArcTable). arc_at table (states table.first) (states table.second)) item (pos 0))
small_arc None small states = nothing_small
small_arc (Some table) small states = small_ends table small (states table.first) (states table.second)

-- of all points and arcs: 2^116
pub parts_small : (tables : NetworkTables) (states : States) → AreSmallTables tables → IsWithin 83076749736557242056487941267521536 (parts_by tables states)
parts_small tables states are =
    let points = small_sum (point_part tables.points states) (λ k. small_point (slice_get tables.points k) (are.points k) (states k)) 0 (length tables.points) in
    let arcs = small_sum (arc_part tables.arcs states) (λ k. small_arc (slice_get tables.arcs k) (are.arcs k) states) 0 (length tables.arcs) in
    let points_low = points.low in
    let points_high = points.high in
    let arcs_low = arcs.low in
    let arcs_high = arcs.high in
    let few_points = are.few_points in
    let few_arcs = are.few_arcs in
    record { low = omega (arith, ints, points_low, arcs_low, few_points, few_arcs); high = omega (arith, ints, points_high, arcs_high, few_points, few_arcs) }

-- the sum moves by what the point and its arcs come to, and all that is small
pub put_moves : (tables : NetworkTables) (old new : List (Option ℕ)) (arcs : List ℕ) (point : ℕ) (state : Option ℕ) (before after parts : ℤ) → AreSmallTables tables → length tables.points ≡ length old → point < length old
    → arcs ≡ arcs_at tables.arcs point → new ≡ set old point state
    → before ≡ point_part tables.points (as_states old) point +ℤ total (arc_part tables.arcs (as_states old)) arcs
    → after ≡ point_part tables.points (as_states new) point +ℤ total (arc_part tables.arcs (as_states new)) arcs
    → parts ≡ parts_by tables (as_states old)
    → (parts_by tables (as_states new) ≡ parts +ℤ (after -ℤ before)) × IsWithin 83076749736557242056487941267521536 parts × IsWithin 83076749736557242056487941267521536 (parts_by tables (as_states new))
put_moves tables old new arcs point state before after parts are size low named written was is sum =
    let others : (k : ℕ) → (k == point) ≡ false → as_states new k ≡ as_states old k =
    λ k other. ap (λ list. get_or list k None) written ∙ get_or-set_other old point k state None (eqb-false k point other) in
    let here : point < length tables.points = omega (arith, size, low) in
    let moved = parts_move tables (as_states old) (as_states new) point others here in
    let first = was ∙ ap (λ numbers. point_part tables.points (as_states old) point +ℤ total (arc_part tables.arcs (as_states old)) numbers) named in
    let second = is ∙ ap (λ numbers. point_part tables.points (as_states new) point +ℤ total (arc_part tables.arcs (as_states new)) numbers) named in (
      omega (arith, ints, moved, first, second, sum),
      subst (IsWithin 83076749736557242056487941267521536) (sym sum) (parts_small tables (as_states old) are),
      parts_small tables (as_states new) are,
    )
