-- No shift of an arc changes what all points and arcs come to at a whole valid list.
use Rattle.std.proofs.Common.{◌≡◌, ℕ, zero, suc, ◌+◌, ◌-◌, ◌<◌, Bool, true, false, ◌&&◌, cond, Option, Some, None, List, [], ◌∷◌, map, length, refl, sym, ap, ◌∙◌, subst, arith, ℤ, pos, ◌+ℤ◌, ◌-ℤ◌, inl, inr, slice_get, option_map}
use Rattle.std.specs.Prelude.{IsTrue, is_some, ◌==◌, if◌then◌else◌, unwrap_or}
use Rattle.std.specs.List.{AllByRecursion, range_with_len}
use Rattle.std.specs.Option.{option_map_or}
use Rattle.std.proofs.lemmas.Int.{ints}
use Rattle.std.proofs.lemmas.Bool.{true≢false, cond-true, cond-false, cases_Bool, eq-eqb, ne_eqb}
use Rattle.vd_search_tree.specs.declared.shift.Shift.{Shift}
use Rattle.vd_space.specs.declared.problem.Problem.{Problem}
use Rattle.vd_space.specs.Validity.{is_valid}
use Rattle.vd_space.specs.Costs.{Pair, total}
use Rattle.vd_space.specs.Bounds.{signed, use_shift}
use Rattle.vd_space.specs.Spaces.{IsProblem}
use Rattle.vd_space.proofs.Tests.{each_leads}
use Rattle.vd_space.proofs.Terms.{total_same}
use Rattle.vd_space.proofs.Totals.{total_map, total_ext, total_plus, total_zero, total_swap, total_once}
use Rattle.vd_space.proofs.Valued.{each_map, each_below}
use Rattle.vd_space.proofs.Shifted.{each_at}
use Rattle.vd_space.specs.Points.{Switch, switches, points, switched, decided}
use Rattle.vd_space.specs.Arcs.{arcs}
use Rattle.vd_space.specs.Network.{end_of, point_shift, network_one, network_pair, network_pairs}
use Rattle.vd_space.proofs.Items.{inside}
use Rattle.vd_space.proofs.Points.{at_either}
use Rattle.vd_space.proofs.CostNetworkTerms.{PointHas, ArcHas, HaveAll, point_at, arc_at, point_is, arc_is, network_sum_at}
use Rattle.vd_space.proofs.CostNetworkValued.{plain_one, plain_has, arcs_have}

-- the setting of a point in a whole list
abbrev here : Problem → List ℕ → ℕ → ℕ
here problem list point = unwrap_or (decided problem list point) 0

here_is : (problem : Problem) (list : List ℕ) (point v : ℕ) → decided problem list point ≡ Some v → here problem list point ≡ v
here_is problem list point v is = ap (λ o. unwrap_or o 0) is

-- what a shift comes to on the point of its side, and on its arc
abbrev effect_on : Problem → List ℕ → Shift → Pair → ℤ
effect_on problem list shift arc = if shift.proto == here problem list (end_of arc shift.side) then signed shift else pos 0

abbrev effect : Problem → List ℕ → List Pair → Shift → ℤ
effect problem list pairs shift = option_map_or (effect_on problem list shift) (slice_get pairs shift.at) (pos 0)

-- ---- points

both_tests : (a b : Bool) (v : ℤ) → cond (a && b) v (pos 0) ≡ cond a (cond b v (pos 0)) (pos 0)
both_tests true b v = refl
both_tests false b v = refl

-- the points of an arc are there
pub record IsBetween (count : ℕ) (arc : Pair) : Type 0 where
  pub first : arc.first < count
  pub second : arc.second < count

item_there : (problem : Problem) (list : List ℕ) (v : ℕ) (item : Option Switch) → option_map_or (switched problem list) item None ≡ Some v → IsTrue (is_some item)
item_there problem list v None is = absurd (true≢false (sym (ap is_some is)))
item_there problem list v (Some w) is = refl

settled_inside : (problem : Problem) (list : List ℕ) (point v : ℕ) → decided problem list point ≡ Some v → point < length problem.slots + length (switches problem)
settled_inside problem list point v is = elim (at_either problem (slice_get list) (switched problem list) None point) [
  | inl slot ↦ let low = slot.0 in omega (arith, low)
  | inr behind ↦
      let high = behind.0 in
      let k = point - length problem.slots in
      let low = inside (switches problem) k (item_there problem list v (slice_get (switches problem) k) (sym behind.1 ∙ is)) in
      omega (arith, low, high)
]

between : (problem : Problem) (list : List ℕ) (arc : Pair) → ArcHas problem list arc → IsBetween (length problem.slots + length (switches problem)) arc
between problem list arc has = record { first = settled_inside problem list arc.first has.v has.first.is; second = settled_inside problem list arc.second has.w has.second.is }

module _ (problem : Problem) (list : List ℕ) (pairs : List Pair) (count : ℕ) (between : AllByRecursion (IsBetween count) pairs) (shift : Shift) where
  end_low : (arc : Pair) → IsBetween count arc → end_of arc shift.side < count
  end_low arc known = elim (cases_Bool (shift.side == 0)) [
    | inl first ↦ subst (λ s. s < count) (sym (cond-true (shift.side == 0) arc.first arc.second first)) known.first
    | inr second ↦ subst (λ s. s < count) (sym (cond-false (shift.side == 0) arc.first arc.second second)) known.second
  ]

  points_effect_of : (item : Option Pair) → ((arc : Pair) → item ≡ Some arc → IsBetween count arc)
      → total (λ point. option_map_or (λ arc. if end_of arc shift.side == point && shift.proto == here problem list point then signed shift else pos 0) item (pos 0)) (range_with_len 0 count)
      ≡ option_map_or (effect_on problem list shift) item (pos 0)
  points_effect_of None known = total_zero (λ point. pos 0) (λ point. refl) (range_with_len 0 count)
  points_effect_of (Some arc) known =
      let side = end_of arc shift.side in
      let value : ℕ → ℤ = λ point. if shift.proto == here problem list point then signed shift else pos 0 in
      total_ext (λ point. if side == point && shift.proto == here problem list point then signed shift else pos 0) (λ point. if side == point then value point else pos 0)
      (λ point. both_tests (side == point) (shift.proto == here problem list point) (signed shift)) (range_with_len 0 count)
      ∙ total_once side 0 count value (omega arith) (let low = end_low arc (known arc refl) in omega (arith, low))

  points_effect : total (λ point. point_shift pairs point (here problem list point) shift) (range_with_len 0 count) ≡ effect problem list pairs shift
  points_effect = points_effect_of (slice_get pairs shift.at) (λ arc at. each_at (IsBetween count) pairs shift.at arc at between)

-- ---- arcs

abbrev arcs_effect : Problem → List ℕ → Shift → ℕ → List Pair → ℤ
arcs_effect problem list shift at [] = pos 0
arcs_effect problem list shift at (arc ∷ rest) = use_shift at (here problem list arc.first) (here problem list arc.second) shift +ℤ arcs_effect problem list shift (at + 1) rest

module _ (problem : Problem) (list : List ℕ) (shift : Shift) where
  setting_at : (arc : Pair) → cond (shift.side == 0) (here problem list arc.first) (here problem list arc.second) ≡ here problem list (end_of arc shift.side)
  setting_at arc = elim (cases_Bool (shift.side == 0)) [
    | inl first ↦ cond-true (shift.side == 0) (here problem list arc.first) (here problem list arc.second) first ∙ ap (here problem list) (sym (cond-true (shift.side == 0) arc.first arc.second first))
    | inr second ↦ cond-false (shift.side == 0) (here problem list arc.first) (here problem list arc.second) second ∙ ap (here problem list) (sym (cond-false (shift.side == 0) arc.first arc.second second))
  ]

  arc_effect_same : (at : ℕ) (arc : Pair) → shift.at ≡ at → use_shift at (here problem list arc.first) (here problem list arc.second) shift ≡ effect_on problem list shift arc
  arc_effect_same at arc same =
      let test = shift.proto == cond (shift.side == 0) (here problem list arc.first) (here problem list arc.second) in
      both_tests (shift.at == at) test (signed shift)
      ∙ cond-true (shift.at == at) (cond test (signed shift) (pos 0)) (pos 0) (eq-eqb shift.at at same)
      ∙ ap (λ v. cond (shift.proto == v) (signed shift) (pos 0)) (setting_at arc)

  arc_effect_none : (at : ℕ) (arc : Pair) → (shift.at ≡ at → ⊥) → use_shift at (here problem list arc.first) (here problem list arc.second) shift ≡ pos 0
  arc_effect_none at arc other =
      let test = shift.proto == cond (shift.side == 0) (here problem list arc.first) (here problem list arc.second) in
      both_tests (shift.at == at) test (signed shift)
      ∙ cond-false (shift.at == at) (cond test (signed shift) (pos 0)) (pos 0) (ne_eqb shift.at at other)

  arcs_effect_none : (at : ℕ) (pairs : List Pair) → shift.at < at → arcs_effect problem list shift at pairs ≡ pos 0
  arcs_effect_none at [] low = refl
  arcs_effect_none at (arc ∷ rest) low =
      let first = arc_effect_none at arc (λ same. absurd (omega (arith, same))) in
      let others = arcs_effect_none (at + 1) rest (omega arith) in
      omega (arith, ints, first, others)

  arcs_effect_at : (at k : ℕ) (pairs : List Pair) → shift.at ≡ at + k → arcs_effect problem list shift at pairs ≡ option_map_or (effect_on problem list shift) (slice_get pairs k) (pos 0)
  arcs_effect_at at k [] same = refl
  arcs_effect_at at zero (arc ∷ rest) same =
      let first = arc_effect_same at arc (omega (arith, same)) in
      let others = arcs_effect_none (at + 1) rest (omega (arith, same)) in
      omega (arith, ints, first, others)
  arcs_effect_at at (suc k) (arc ∷ rest) same =
      let first = arc_effect_none at arc (λ here. absurd (omega (arith, same, here))) in
      let others = arcs_effect_at (at + 1) k rest (omega (arith, same)) in
      omega (arith, ints, first, others)

effects_agree : (problem : Problem) (list : List ℕ) (pairs : List Pair) (shift : Shift) → arcs_effect problem list shift 0 pairs ≡ effect problem list pairs shift
effects_agree problem list pairs shift = arcs_effect_at problem list shift 0 shift.at pairs (omega arith)

-- ---- under shifts each term still has a value

module _ (problem : Problem) (is : IsProblem problem) (list : List ℕ) (full : length list ≡ length problem.slots) (valid : IsTrue (is_valid problem list)) (shifts : List Shift) where
  shifted_point_has : (point : ℕ) → PointHas problem list (plain_one problem point) → PointHas problem list (network_one problem shifts point)
  shifted_point_has point has = record {
    v = has.v;
    at = has.at;
    c = has.c +ℤ total (point_shift (arcs problem) point has.v) shifts;
    value = ap (option_map (λ c. c +ℤ total (point_shift (arcs problem) point has.v) shifts)) has.value;
  }

  shifted_point_is : (point : ℕ) → PointHas problem list (plain_one problem point)
      → point_at problem list (network_one problem shifts point) ≡ point_at problem list (plain_one problem point) +ℤ total (point_shift (arcs problem) point (here problem list point)) shifts
  unfolding shifted_point_has
  shifted_point_is point has =
      let plain = point_is problem list (plain_one problem point) has in
      let mine = point_is problem list (network_one problem shifts point) (shifted_point_has point has) in
      let at = ap (λ v. total (point_shift (arcs problem) point v) shifts) (here_is problem list point has.v has.at.is) in
      omega (arith, ints, plain, mine, at)

  shifted_arc_has : (at : ℕ) (arc : Pair) → ArcHas problem list arc → ArcHas problem list (network_pair shifts at arc)
  shifted_arc_has at arc has = record {
    v = has.v;
    first = has.first;
    w = has.w;
    second = has.second;
    c = has.c -ℤ total (use_shift at has.v has.w) shifts;
    value = ap (option_map (λ c. c -ℤ total (use_shift at has.v has.w) shifts)) has.value;
  }

  shifted_arc_is : (at : ℕ) (arc : Pair) → ArcHas problem list arc
      → arc_at problem list (network_pair shifts at arc) ≡ arc_at problem list arc -ℤ total (use_shift at (here problem list arc.first) (here problem list arc.second)) shifts
  unfolding shifted_arc_has
  shifted_arc_is at arc has =
      let plain = arc_is problem list arc has in
      let mine = arc_is problem list (network_pair shifts at arc) (shifted_arc_has at arc has) in
      let first = ap (λ v. total (use_shift at v has.w) shifts) (here_is problem list arc.first has.v has.first.is) in
      let second = ap (λ w. total (use_shift at (here problem list arc.first) w) shifts) (here_is problem list arc.second has.w has.second.is) in
      omega (arith, ints, plain, mine, first, second)

  shifted_arcs_have : (at : ℕ) (pairs : List Pair) → AllByRecursion (ArcHas problem list) pairs → AllByRecursion (ArcHas problem list) (network_pairs shifts at pairs)
  shifted_arcs_have at [] each = tt
  shifted_arcs_have at (arc ∷ rest) each = (shifted_arc_has at arc each.0, shifted_arcs_have (at + 1) rest each.1)

  arcs_total : (at : ℕ) (pairs : List Pair) → AllByRecursion (ArcHas problem list) pairs
      → total (arc_at problem list) (network_pairs shifts at pairs) ≡ total (arc_at problem list) pairs -ℤ total (λ shift. arcs_effect problem list shift at pairs) shifts
  arcs_total at [] each = let none = total_zero (λ (shift : Shift). pos 0) (λ shift. refl) shifts in omega (arith, ints, none)
  arcs_total at (arc ∷ rest) each =
      let first = shifted_arc_is at arc each.0 in
      let others = arcs_total (at + 1) rest each.1 in
      let split = total_plus (use_shift at (here problem list arc.first) (here problem list arc.second)) (λ shift. arcs_effect problem list shift (at + 1) rest) shifts in
      omega (arith, ints, first, others, split)

  -- ---- all of them

  abbrev count : ℕ
  count = length problem.slots + length (switches problem)

  each_plain : AllByRecursion (λ point. PointHas problem list (plain_one problem point)) (points problem)
  each_plain = each_below (λ point. PointHas problem list (plain_one problem point)) 0 count (λ point low. plain_has problem is list full valid point (omega (arith, low)))

  pub all_have : HaveAll problem (map (network_one problem shifts) (points problem)) (network_pairs shifts 0 (arcs problem)) list
  all_have = record {
    one = each_map (PointHas problem list) (network_one problem shifts) (points problem)
        (each_below (λ point. PointHas problem list (network_one problem shifts point)) 0 count (λ point low. shifted_point_has point (plain_has problem is list full valid point (omega (arith, low)))));
    arc = shifted_arcs_have 0 (arcs problem) (arcs_have problem is list full valid);
  }

  -- so shifts cancel
  pub shifts_cancel : network_sum_at problem (map (network_one problem shifts) (points problem)) (network_pairs shifts 0 (arcs problem)) list ≡ network_sum_at problem (map (plain_one problem) (points problem)) (arcs problem) list
  unfolding network_sum_at
  shifts_cancel =
      let pairs = arcs problem in
      let bounded = each_leads (ArcHas problem list) (IsBetween count) (between problem list) pairs (arcs_have problem is list full valid) in
      let all = points problem in
      let plain : ℕ → ℤ = λ point. point_at problem list (plain_one problem point) in
      let moved : ℕ → ℤ = λ point. total (point_shift pairs point (here problem list point)) shifts in
      let mapped = total_map (point_at problem list) (network_one problem shifts) all in
      let mapped_plain = total_map (point_at problem list) (plain_one problem) all in
      let each = total_same (λ point. PointHas problem list (plain_one problem point)) (λ point. point_at problem list (network_one problem shifts point)) (λ point. plain point +ℤ moved point) shifted_point_is all each_plain in
      let split = total_plus plain moved all in
      let shiftings = total_swap (λ point shift. point_shift pairs point (here problem list point) shift) all shifts in
      let effects = total_ext (λ shift. total (λ point. point_shift pairs point (here problem list point) shift) all) (effect problem list pairs) (points_effect problem list pairs count bounded) shifts in
      let second = arcs_total 0 pairs (arcs_have problem is list full valid) in
      let agree = total_ext (λ shift. arcs_effect problem list shift 0 pairs) (effect problem list pairs) (effects_agree problem list pairs) shifts in
      omega (arith, ints, mapped, mapped_plain, each, split, shiftings, effects, second, agree)
