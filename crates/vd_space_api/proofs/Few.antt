-- How many usual shifts there are at most.
use Rattle.std.proofs.Common.{ℕ, zero, suc, ◌+◌, ◌*◌, ◌≤◌, Bool, true, false, cond, Option, Some, None, List, [], ◌∷◌, length, arith, ℤ, pos, negsuc, length-append, mul-le-mul}
use Rattle.vd_search_tree.specs.declared.shift.Shift.{Shift}
use Rattle.vd_space.specs.declared.problem.Problem.{Problem}
use Rattle.vd_space.specs.declared.problem.Use.{Use}
use Rattle.vd_space.specs.Validity.{protocols, is_candidate}
use Rattle.vd_space.specs.Bounds.{least_at, shifted_one, shifted_use}
use Rattle.vd_space.specs.Labelled.{IsLabelled}
use Rattle.vd_space.specs.Sizes.{IsWithinLimits}
use Rattle.vd_space.proofs.Front.{few_in}
use Rattle.vd_space.specs.Usual.{with_amount, shift_to, from_target, to_source, in_list_order, usual_from, usual}

-- ---- shifts

one_more : (value : Option ℤ) (shift : ℕ → Shift) (shifts : List Shift) → length (with_amount value shift shifts) ≤ length shifts + 1
one_more None shift shifts = omega arith
one_more (Some (negsuc n)) shift shifts = omega arith
one_more (Some (pos zero)) shift shifts = omega arith
one_more (Some (pos (suc n))) shift shifts = let both = length-append shifts (shift (suc n) ∷ []) in omega (arith, both)

if_one_more : (test : Bool) (more shifts : List Shift) → length more ≤ length shifts + 1 → length (cond test more shifts) ≤ length shifts + 1
if_one_more true more shifts low = low
if_one_more false more shifts low = omega arith

in_order_more : (step : ℕ → List Shift → List Shift) → ((p : ℕ) (shifts : List Shift) → length (step p shifts) ≤ length shifts + 1) → (n : ℕ) (shifts : List Shift) → length (in_list_order step n shifts) ≤ length shifts + n
in_order_more step each zero shifts = omega arith
in_order_more step each (suc n) shifts =
    let rest = in_order_more step each n shifts in
    let here = each n (in_list_order step n shifts) in
    omega (arith, rest, here)

module _ (problem : Problem) where
  target_more : (at : ℕ) (u : Use) (p : ℕ) (shifts : List Shift) → length (from_target problem at u p shifts) ≤ length shifts + 1
  target_more at u p shifts =
      let value = (shifted_one problem shifts u.target.0).value p in
      if_one_more (is_candidate problem u.target.0 p) (with_amount value (shift_to at 1 p false) shifts) shifts (one_more value (shift_to at 1 p false) shifts)

  source_more : (at : ℕ) (u : Use) (p : ℕ) (shifts : List Shift) → length (to_source problem at u p shifts) ≤ length shifts + 1
  source_more at u p shifts =
      let value = least_at problem [] u.target.0 ((shifted_use problem shifts at u).value p) in
      if_one_more (is_candidate problem u.source.0 p) (with_amount value (shift_to at 0 p true) shifts) shifts (one_more value (shift_to at 0 p true) shifts)

  from_more : (at : ℕ) (us : List Use) → length (usual_from problem at us) ≤ 2 * length (protocols problem) * length us
  from_more at [] = omega arith
  from_more at (u ∷ us) =
      let n = length (protocols problem) in
      let rest = from_more (at + 1) us in
      let first = in_order_more (from_target problem at u) (target_more at u) n (usual_from problem (at + 1) us) in
      let second = in_order_more (to_source problem at u) (source_more at u) n (in_list_order (from_target problem at u) n (usual_from problem (at + 1) us)) in
      omega (arith, rest, first, second)

  pub usual_few : IsLabelled problem → IsWithinLimits problem → length (usual problem) ≤ 131072
  usual_few labelled limits =
      let n = length (protocols problem) in
      let all = from_more 0 problem.uses in
      let protocols_few : 2 * n ≤ 84 = let few = few_in problem labelled in omega (arith, few) in
      let uses_few : length problem.uses ≤ 1536 = limits.few_uses in
      let product : 2 * n * length problem.uses ≤ 84 * 1536 = mul-le-mul protocols_few uses_few in
      omega (arith, all, product)
