-- Small values of terms, and small charges.
use Rattle.std.proofs.Common.{◌≡◌, ℕ, zero, suc, ◌+◌, ◌*◌, ◌<◌, ◌≤◌, Bool, true, false, Option, Some, None, List, [], ◌∷◌, length, get_or, sym, subst, arith, mul-le-mul, ℤ, pos, ◌+ℤ◌, inl, inr, to_z, of_z, w64}
use Rattle.std.specs.Prelude.{unwrap_or, option_map, ◌==◌, All}
use Rattle.std.specs.Option.{option_and_then}
use Rattle.std.proofs.lemmas.Int.{ints, int_min_is}
use Rattle.std.proofs.lemmas.Bool.{cases_Bool, cond-true, cond-false}
use Rattle.std.proofs.lemmas.List.{get_or_past}
use Rattle.std.proofs.lemmas.List.Elements.{All-tail}
use Rattle.std.proofs.lemmas.Option.{slice_get_cases}
use Rattle.vd_base.specs.declared.ids.HostId.{HostId}
use Rattle.vd_base.specs.Costs.{cost_at}
use Rattle.vd_search_tree.specs.declared.shift.Shift.{Shift}
use Rattle.vd_space.specs.declared.problem.Problem.{Problem}
use Rattle.vd_space.specs.declared.problem.Making.{Making}
use Rattle.vd_space.specs.declared.problem.Output.{Output}
use Rattle.vd_space.specs.Validity.{protocols, protocol, is_candidate, move_to_host}
use Rattle.vd_space.specs.Costs.{One, weigh, operation_value, operation_term, output_value, total}
use Rattle.vd_space.specs.Bounds.{lesser, least_below, only_if, nothing_left, add, outputs_value, slot_shift, shifted_one}
use Rattle.vd_space.specs.Growth.{least_free}
use Rattle.vd_space.specs.Labelled.{IsLabelled}
use Rattle.vd_space.specs.Sizes.{IsWithinLimits}
use Rattle.vd_space.proofs.Front.{row_price, small, told_price, listed_or_not}
use Rattle.vd_space_prefix.specs.Transfers.{IsWithin, by_place}
use Rattle.vd_space_prefix.proofs.Front.{at_place, size_by_place}
use Rattle.vd_space_tables.specs.declared.charges.Charge.{Charge}
use Rattle.vd_space_tables.specs.Charges.{IsCharge, charge_of, told_term}

abbrev pub HasAtMost : ℕ → Option ℤ → Type 0
HasAtMost most value = IsWithin most (unwrap_or value (pos 0))

pub zero_within : (most : ℕ) → IsWithin most (pos 0)
zero_within most = record { low = omega (arith, ints); high = omega (arith, ints) }

pub more_within : (less most : ℕ) (z : ℤ) → less ≤ most → IsWithin less z → IsWithin most z
more_within less most z more is = record { low = omega (arith, ints, more, is.low); high = omega (arith, ints, more, is.high) }

lesser_within : (most : ℕ) (a b : Option ℤ) → HasAtMost most a → HasAtMost most b → HasAtMost most (lesser a b)
lesser_within most None b first second = second
lesser_within most (Some a) None first second = first
lesser_within most (Some a) (Some b) first second =
    let least = int_min_is a b in
    record { low = omega (arith, ints, least, first.low, second.low); high = omega (arith, ints, least, first.high, second.high) }

least_within : (most n : ℕ) (value : ℕ → Option ℤ) → ((k : ℕ) → k < n → HasAtMost most (value k)) → HasAtMost most (least_below n value)
least_within most zero value each = zero_within most
least_within most (suc n) value each = lesser_within most (least_below n value) (value n) (least_within most n value (λ k low. each k (omega arith))) (each n (omega arith))

only_within : (most : ℕ) (test : Bool) (value : Option ℤ) → HasAtMost most value → HasAtMost most (only_if test value)
only_within most true value is = is
only_within most false value is = zero_within most

left_within : (most : ℕ) (value : Option ℤ) → 1000000000 ≤ most → HasAtMost most value → IsWithin most (unwrap_or value nothing_left)
left_within most None enough is = record { low = omega (arith, ints, enough); high = omega (arith, ints, enough) }
left_within most (Some v) enough is = is

weigh_within : (most weight : ℕ) (price : Option ℕ) → weight ≤ 65536 → unwrap_or price 0 ≤ most → HasAtMost (65536 * most) (weigh weight price)
weigh_within most weight None light low = zero_within (65536 * most)
weigh_within most weight (Some c) light low =
    let product : weight * c ≤ 65536 * most = mul-le-mul light low in
    record { low = omega (arith, ints, product); high = omega (arith, ints, product) }

pub add_within : (m n : ℕ) (a b : Option ℤ) → HasAtMost m a → HasAtMost n b → HasAtMost (m + n) (add a b)
add_within m n None b first second = zero_within (m + n)
add_within m n (Some a) None first second = zero_within (m + n)
add_within m n (Some a) (Some b) first second = record { low = omega (arith, ints, first.low, second.low); high = omega (arith, ints, first.high, second.high) }

shifted_within : (m n : ℕ) (value : Option ℤ) (shift : ℤ) → HasAtMost m value → IsWithin n shift → HasAtMost (m + n) (option_map (λ v. v +ℤ shift) value)
shifted_within m n None shift is small_shift = zero_within (m + n)
shifted_within m n (Some v) shift is small_shift = record { low = omega (arith, ints, is.low, small_shift.low); high = omega (arith, ints, is.high, small_shift.high) }

-- small numbers are kept in 64 bits
pub kept : (z : ℤ) → IsWithin 1125899906842624 z → to_z w64 (of_z w64 z) ≡ z
kept z is = let low = is.low in let high = is.high in omega (arith, ints, low, high)

pub charge_more : (less most : ℕ) (charge : Charge) → less ≤ most → IsCharge less charge → IsCharge most charge
charge_more less most charge more is = record {
  costs = λ p. more_within less most (get_or charge.costs p (pos 0)) more (is.costs p);
  free = more_within less most charge.free more is.free;
}

abbrev cost_of : One → ℕ → ℤ
cost_of one p = unwrap_or (one.value p) nothing_left

charge_small : (problem : Problem) (one : One) (most : ℕ) → 1000000000 ≤ most → ((p : ℕ) → p < length (protocols problem) → HasAtMost most (one.value p)) → IsCharge most (charge_of problem one)
charge_small problem one most enough each = record {
  costs = λ p. elim (listed_or_not (length (protocols problem)) p) [
    | inl low ↦ subst (IsWithin most) (sym (at_place (length (protocols problem)) (cost_of one) p (pos 0) low)) (left_within most (one.value p) enough (each p low))
    | inr past ↦
        let size = size_by_place (length (protocols problem)) (cost_of one) in
        subst (IsWithin most) (sym (get_or_past (by_place (length (protocols problem)) (cost_of one)) p (pos 0) (omega (arith, size, past)))) (zero_within most)
  ];
  free = left_within most (least_free problem one.slot one.value) enough
      (least_within most (length (protocols problem)) (λ p. only_if (is_candidate problem one.slot p) (one.value p)) (λ p low. only_within most (is_candidate problem one.slot p) (one.value p) (each p low)));
}

module _ (problem : Problem) (labelled : IsLabelled problem) where
  told_value_small : (weight : ℕ) (h : HostId) (p : ℕ) → weight ≤ 65536 → HasAtMost 13893632 (weigh weight (move_to_host problem h p))
  told_value_small weight h p light = weigh_within 212 weight (move_to_host problem h p) light (told_price problem labelled.few_hosts h p)

  -- 2^30
  pub told_small : (slot weight : ℕ) (h : HostId) → weight ≤ 65536 → IsCharge 1073741824 (charge_of problem (told_term problem slot weight h))
  told_small slot weight h light =
      charge_small problem (told_term problem slot weight h) 1073741824 (omega arith)
      (λ p low. more_within 13893632 1073741824 (unwrap_or (weigh weight (move_to_host problem h p)) (pos 0)) (omega arith) (told_value_small weight h p light))

  module _ (limits : IsWithinLimits problem) where
    operation_within : (p : ℕ) (making : Making) → making.weight ≤ 65536 → HasAtMost 14417920 (weigh making.weight (cost_at making.row (protocol problem p)))
    operation_within p making light = weigh_within 220 making.weight (cost_at making.row (protocol problem p)) light (row_price making.row (protocol problem p) (small problem labelled.few_hosts p))

    pub operation_value_small : (slot p : ℕ) → HasAtMost 14417920 (operation_value problem slot p)
    operation_value_small slot p = elim (slice_get_cases problem.slots slot).1 [
      | inl found ↦
          let light : found.0.weight ≤ 65536 = subst (λ (m : Making). m.weight ≤ 65536) found.3 (limits.slots slot found.0 found.1) in
          subst (λ o. HasAtMost 14417920 (option_and_then (λ (m : Making). weigh m.weight (cost_at m.row (protocol problem p))) o)) (sym found.2) (operation_within p found.0 light)
      | inr past ↦ subst (λ o. HasAtMost 14417920 (option_and_then (λ (m : Making). weigh m.weight (cost_at m.row (protocol problem p))) o)) (sym past.1) (zero_within 14417920)
    ]

    pub operation_small : (slot : ℕ) → IsCharge 1125899906842624 (charge_of problem (operation_term problem slot))
    operation_small slot =
        charge_small problem (operation_term problem slot) 1125899906842624 (omega arith)
        (λ p low. more_within 14417920 1125899906842624 (unwrap_or (operation_value problem slot p) (pos 0)) (omega arith) (operation_value_small slot p))

    pub outputs_value_small : (slot p : ℕ) (os : List Output) → All (λ (o : Output). o.weight ≤ 65536) os → HasAtMost (13893632 * length os) (outputs_value problem slot p os)
    outputs_value_small slot p [] light = zero_within 0
    outputs_value_small slot p (o ∷ os) light =
        let rest = outputs_value_small slot p os (All-tail (λ (x : Output). x.weight ≤ 65536) o os light) in
        let here = told_value_small o.weight o.host p (light 0 o (omega arith)) in
        elim (cases_Bool (o.slot.0 == slot)) [
          | inl own ↦ subst (HasAtMost (13893632 * length (o ∷ os))) (sym (cond-true (o.slot.0 == slot) (add (output_value problem o p) (outputs_value problem slot p os)) (outputs_value problem slot p os) own))
              (more_within (13893632 + 13893632 * length os) (13893632 * length (o ∷ os)) (unwrap_or (add (output_value problem o p) (outputs_value problem slot p os)) (pos 0)) (omega arith) (add_within 13893632 (13893632 * length os) (output_value problem o p) (outputs_value problem slot p os) here rest))
          | inr other ↦ subst (HasAtMost (13893632 * length (o ∷ os))) (sym (cond-false (o.slot.0 == slot) (add (output_value problem o p) (outputs_value problem slot p os)) (outputs_value problem slot p os) other))
              (more_within (13893632 * length os) (13893632 * length (o ∷ os)) (unwrap_or (outputs_value problem slot p os) (pos 0)) (omega arith) rest)
        ]

    -- 2^50
    pub merged_small : (shifts : List Shift) (slot : ℕ) → ((p : ℕ) → p < length (protocols problem) → IsWithin 562949953421312 (total (slot_shift problem slot p) shifts)) → IsCharge 1125899906842624 (charge_of problem (shifted_one problem shifts slot))
    merged_small shifts slot shifted =
        charge_small problem (shifted_one problem shifts slot) 1125899906842624 (omega arith)
        (λ p low.
        let count = limits.count in
        let own = add_within 14417920 (13893632 * length problem.outputs) (operation_value problem slot p) (outputs_value problem slot p problem.outputs) (operation_value_small slot p) (outputs_value_small slot p problem.outputs limits.outputs) in
        more_within (14417920 + 13893632 * length problem.outputs + 562949953421312) 1125899906842624 (unwrap_or ((shifted_one problem shifts slot).value p) (pos 0)) (omega (arith, count))
        (shifted_within (14417920 + 13893632 * length problem.outputs) 562949953421312 (add (operation_value problem slot p) (outputs_value problem slot p problem.outputs)) (total (slot_shift problem slot p) shifts) own (shifted p low)))
