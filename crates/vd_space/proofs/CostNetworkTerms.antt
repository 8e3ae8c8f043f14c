-- Each term of a whole valid list has a value there, and its least value under a prefix is at most that.
use Rattle.std.proofs.Common.{◌≡◌, ℕ, ◌<◌, ◌⊎◌, Option, Some, None, List, [], ◌++◌, refl, sym, ap, ◌∙◌, subst, arith, inl, inr, ℤ, pos, ◌+ℤ◌, ◌≤ℤ◌, append-nil}
use Rattle.std.specs.Prelude.{IsTrue, ◌==◌, unwrap_or}
use Rattle.std.specs.List.{AllByRecursion}
use Rattle.std.specs.Option.{option_map_or, option_and_then}
use Rattle.std.proofs.lemmas.Int.{ints}
use Rattle.std.proofs.lemmas.Bool.{eq-eqb, eqb-true}
use Rattle.vd_space.specs.declared.problem.Problem.{Problem}
use Rattle.vd_space.specs.Validity.{is_valid}
use Rattle.vd_space.specs.Costs.{One, Pair, total}
use Rattle.vd_space.specs.Bounds.{only_if}
use Rattle.vd_space.proofs.Least.{AtMost, AtLeast, least_low, least_high, only_low, only_high, low_some, high_some, found_low, found_high}
use Rattle.vd_space.proofs.Terms.{total_low, total_same}
use Rattle.vd_space.specs.Points.{is_setting, most_settings, decided, may_be, least_over}
use Rattle.vd_space.specs.Network.{no_parts_left, least_point, least_arc}
use Rattle.vd_space.proofs.CostNetworkKept.{point_kept}

-- a point of a list, at one of its settings
pub record IsSettled (problem : Problem) (list : List ℕ) (point v : ℕ) : Type 0 where
  pub is : decided problem list point ≡ Some v
  pub setting : IsTrue (is_setting problem point v)
  pub within : v < most_settings problem

-- at its setting a point may be, under any item that is missing or the same
may_at : (problem : Problem) (point v : ℕ) (item : Option ℕ) → (item ≡ None) ⊎ (item ≡ Some v) → IsTrue (is_setting problem point v) → IsTrue (option_map_or (λ w. w == v) item (is_setting problem point v))
may_at problem point v item (inl missing) setting = subst (λ o. IsTrue (option_map_or (λ w. w == v) o (is_setting problem point v))) (sym missing) setting
may_at problem point v item (inr same) setting = subst (λ o. IsTrue (option_map_or (λ w. w == v) o (is_setting problem point v))) (sym same) (eq-eqb v v refl)

module _ (problem : Problem) (prefix rest : List ℕ) (valid : IsTrue (is_valid problem (prefix ++ rest))) where
  may_under : (point v : ℕ) → IsSettled problem (prefix ++ rest) point v → IsTrue (may_be problem (decided problem prefix) point v)
  may_under point v at = elim (point_kept problem prefix rest valid point) [
    | inl missing ↦ may_at problem point v (decided problem prefix point) (inl missing) at.setting
    | inr same ↦ may_at problem point v (decided problem prefix point) (inr (same ∙ at.is)) at.setting
  ]

  least_over_low : (point v : ℕ) (value : ℕ → Option ℤ) (c : ℤ) → IsSettled problem (prefix ++ rest) point v → AtMost (value v) c → AtMost (least_over problem (decided problem prefix) point value) c
  least_over_low point v value c at low =
      least_low (most_settings problem) v (λ w. only_if (may_be problem (decided problem prefix) point w) (value w)) c at.within
      (only_low (may_be problem (decided problem prefix) point v) (value v) c (may_under point v at) low)

module _ (problem : Problem) (list : List ℕ) where
  settled_once : (point v w : ℕ) → IsSettled problem list point v → IsTrue (may_be problem (decided problem list) point w) → w ≡ v
  settled_once point v w at may = sym (eqb-true v w (subst (λ o. IsTrue (option_map_or (λ r. r == w) o (is_setting problem point w))) at.is may))

  least_over_high : (point v : ℕ) (value : ℕ → Option ℤ) (c : ℤ) → IsSettled problem list point v → AtLeast (value v) c → AtLeast (least_over problem (decided problem list) point value) c
  least_over_high point v value c at high =
      least_high (most_settings problem) (λ w. only_if (may_be problem (decided problem list) point w) (value w)) c
      (λ w within. only_high (may_be problem (decided problem list) point w) (value w) c (λ may. subst (λ r. AtLeast (value r) c) (sym (settled_once point v w at may)) high))

-- ---- terms at a list

abbrev pub point_at : Problem → List ℕ → One → ℤ
point_at problem list one = unwrap_or (option_and_then one.value (decided problem list one.slot)) (pos 0)

abbrev pub arc_at : Problem → List ℕ → Pair → ℤ
arc_at problem list arc = unwrap_or (option_and_then (λ v. option_and_then (arc.value v) (decided problem list arc.second)) (decided problem list arc.first)) (pos 0)

pub record PointHas (problem : Problem) (list : List ℕ) (one : One) : Type 0 where
  pub v : ℕ
  pub at : IsSettled problem list one.slot v
  pub c : ℤ
  pub value : one.value v ≡ Some c

pub record ArcHas (problem : Problem) (list : List ℕ) (arc : Pair) : Type 0 where
  pub v : ℕ
  pub first : IsSettled problem list arc.first v
  pub w : ℕ
  pub second : IsSettled problem list arc.second w
  pub c : ℤ
  pub value : arc.value v w ≡ Some c

pub point_is : (problem : Problem) (list : List ℕ) (one : One) → (has : PointHas problem list one) → point_at problem list one ≡ has.c
point_is problem list one has = ap (λ o. unwrap_or (option_and_then one.value o) (pos 0)) has.at.is ∙ ap (λ o. unwrap_or o (pos 0)) has.value

pub arc_is : (problem : Problem) (list : List ℕ) (arc : Pair) → (has : ArcHas problem list arc) → arc_at problem list arc ≡ has.c
arc_is problem list arc has =
    ap (λ o. unwrap_or (option_and_then (λ v. option_and_then (arc.value v) (decided problem list arc.second)) o) (pos 0)) has.first.is
    ∙ ap (λ o. unwrap_or (option_and_then (arc.value has.v) o) (pos 0)) has.second.is
    ∙ ap (λ o. unwrap_or o (pos 0)) has.value

some_low : (o : Option ℤ) (c : ℤ) → o ≡ Some c → AtMost o c
some_low o c is = subst (λ x. AtMost x c) (sym is) (low_some c c (omega (arith, ints)))

some_high : (o : Option ℤ) (c : ℤ) → o ≡ Some c → AtLeast o c
some_high o c is = subst (λ x. AtLeast x c) (sym is) (high_some c c (omega (arith, ints)))

module _ (problem : Problem) (prefix rest : List ℕ) (valid : IsTrue (is_valid problem (prefix ++ rest))) where
  point_low : (one : One) → PointHas problem (prefix ++ rest) one → least_point problem (decided problem prefix) one ≤ℤ point_at problem (prefix ++ rest) one
  point_low one has =
      let least = found_low (least_over problem (decided problem prefix) one.slot one.value) has.c no_parts_left
      (least_over_low problem prefix rest valid one.slot has.v one.value has.c has.at (some_low (one.value has.v) has.c has.value)) in
      subst (λ c. least_point problem (decided problem prefix) one ≤ℤ c) (sym (point_is problem (prefix ++ rest) one has)) least

  arc_low : (arc : Pair) → ArcHas problem (prefix ++ rest) arc → least_arc problem (decided problem prefix) arc ≤ℤ arc_at problem (prefix ++ rest) arc
  arc_low arc has =
      let inner = least_over_low problem prefix rest valid arc.second has.w (arc.value has.v) has.c has.second (some_low (arc.value has.v has.w) has.c has.value) in
      let least = found_low (least_over problem (decided problem prefix) arc.first (λ v. least_over problem (decided problem prefix) arc.second (arc.value v))) has.c no_parts_left
      (least_over_low problem prefix rest valid arc.first has.v (λ v. least_over problem (decided problem prefix) arc.second (arc.value v)) has.c has.first inner) in
      subst (λ c. least_arc problem (decided problem prefix) arc ≤ℤ c) (sym (arc_is problem (prefix ++ rest) arc has)) least

module _ (problem : Problem) (list : List ℕ) (valid : IsTrue (is_valid problem list)) where
  same_list : list ++ [] ≡ list
  same_list = append-nil list

  again : (point v : ℕ) → IsSettled problem list point v → IsSettled problem (list ++ []) point v
  again point v at = subst (λ l. IsSettled problem l point v) (sym same_list) at

  again_valid : IsTrue (is_valid problem (list ++ []))
  again_valid = subst (λ l. IsTrue (is_valid problem l)) (sym same_list) valid

  point_same : (one : One) → PointHas problem list one → least_point problem (decided problem list) one ≡ point_at problem list one
  point_same one has =
      found_high (least_over problem (decided problem list) one.slot one.value) has.c no_parts_left
      (least_over_low problem list [] again_valid one.slot has.v one.value has.c (again one.slot has.v has.at) (some_low (one.value has.v) has.c has.value))
      (least_over_high problem list one.slot has.v one.value has.c has.at (some_high (one.value has.v) has.c has.value))
      ∙ sym (point_is problem list one has)

  arc_same : (arc : Pair) → ArcHas problem list arc → least_arc problem (decided problem list) arc ≡ arc_at problem list arc
  arc_same arc has =
      let inner_low = least_over_low problem list [] again_valid arc.second has.w (arc.value has.v) has.c (again arc.second has.w has.second) (some_low (arc.value has.v has.w) has.c has.value) in
      let inner_high = least_over_high problem list arc.second has.w (arc.value has.v) has.c has.second (some_high (arc.value has.v has.w) has.c has.value) in
      found_high (least_over problem (decided problem list) arc.first (λ v. least_over problem (decided problem list) arc.second (arc.value v))) has.c no_parts_left
      (least_over_low problem list [] again_valid arc.first has.v (λ v. least_over problem (decided problem list) arc.second (arc.value v)) has.c (again arc.first has.v has.first) inner_low)
      (least_over_high problem list arc.first has.v (λ v. least_over problem (decided problem list) arc.second (arc.value v)) has.c has.first inner_high)
      ∙ sym (arc_is problem list arc has)

-- ---- sums

unfoldable pub network_sum_at : Problem → List One → List Pair → List ℕ → ℤ
network_sum_at problem ones arcs list = total (point_at problem list) ones +ℤ total (arc_at problem list) arcs

unfoldable pub network_least : Problem → List One → List Pair → List ℕ → ℤ
network_least problem ones arcs prefix = total (least_point problem (decided problem prefix)) ones +ℤ total (least_arc problem (decided problem prefix)) arcs

pub record HaveAll (problem : Problem) (ones : List One) (arcs : List Pair) (list : List ℕ) : Type 0 where
  pub one : AllByRecursion (PointHas problem list) ones
  pub arc : AllByRecursion (ArcHas problem list) arcs

pub sum_low : (problem : Problem) (ones : List One) (arcs : List Pair) (prefix rest : List ℕ) → IsTrue (is_valid problem (prefix ++ rest)) → HaveAll problem ones arcs (prefix ++ rest)
    → network_least problem ones arcs prefix ≤ℤ network_sum_at problem ones arcs (prefix ++ rest)
unfolding network_sum_at network_least
sum_low problem ones arcs prefix rest valid has =
    let first = total_low (PointHas problem (prefix ++ rest)) (least_point problem (decided problem prefix)) (point_at problem (prefix ++ rest)) (point_low problem prefix rest valid) ones has.one in
    let second = total_low (ArcHas problem (prefix ++ rest)) (least_arc problem (decided problem prefix)) (arc_at problem (prefix ++ rest)) (arc_low problem prefix rest valid) arcs has.arc in
    omega (arith, ints, first, second)

pub sum_same : (problem : Problem) (ones : List One) (arcs : List Pair) (list : List ℕ) → IsTrue (is_valid problem list) → HaveAll problem ones arcs list
    → network_least problem ones arcs list ≡ network_sum_at problem ones arcs list
unfolding network_sum_at network_least
sum_same problem ones arcs list valid has =
    let first = total_same (PointHas problem list) (least_point problem (decided problem list)) (point_at problem list) (point_same problem list valid) ones has.one in
    let second = total_same (ArcHas problem list) (least_arc problem (decided problem list)) (arc_at problem list) (arc_same problem list valid) arcs has.arc in
    omega (arith, ints, first, second)
