-- Sums of terms under a prefix are small.
use Rattle.std.proofs.Common.{ℕ, zero, suc, ◌+◌, ◌*◌, ◌<◌, ◌≤◌, Bool, true, false, cond, Option, Some, None, List, [], ◌∷◌, length, map, get_or, sym, subst, arith, mul-le-mul, ℤ, pos, ◌+ℤ◌, ◌-ℤ◌, slice_get}
use Rattle.std.specs.Prelude.{unwrap_or, option_map, All, IfSome}
use Rattle.std.specs.List.{range_with_len}
use Rattle.std.specs.Option.{option_map_or}
use Rattle.std.proofs.lemmas.Int.{ints}
use Rattle.std.proofs.lemmas.List.Elements.{All-tail}
use Rattle.std.proofs.lemmas.List.FromFn.{length-range_with_len}
use Rattle.std.proofs.lemmas.Option.{slice_get-get_or}
use Rattle.vd_base.specs.HostSets.{host}
use Rattle.vd_search_tree.specs.declared.shift.Shift.{Shift}
use Rattle.vd_space.specs.declared.problem.Problem.{Problem}
use Rattle.vd_space.specs.declared.problem.Output.{Output}
use Rattle.vd_space.specs.declared.problem.Guard.{Guard}
use Rattle.vd_space.specs.Validity.{takes_part}
use Rattle.vd_space.specs.Costs.{One, Pair, total, weigh, ones, slots_of, operation_term, output_term, guards_total}
use Rattle.vd_space.specs.Bounds.{least_one, least_pair, nothing_left, shifted_one, shifted_ones}
use Rattle.vd_space.specs.Growth.{guard_sum}
use Rattle.vd_space.specs.Labelled.{IsLabelled}
use Rattle.vd_space.specs.Sizes.{IsWithinLimits}
use Rattle.vd_space.proofs.Front.{total_append, total_map}
use Rattle.vd_space_prefix.specs.declared.transfers.Arc.{Arc}
use Rattle.vd_space_prefix.specs.declared.guards.Telling.{Telling}
use Rattle.vd_space_prefix.specs.Transfers.{ArePrices, IsWithin, priced, taken}
use Rattle.vd_space_prefix.specs.Steps.{IsArc, at_places}
use Rattle.vd_space_prefix.specs.Guards.{IsTelling, told_under, told_if, guard_under}
use Rattle.vd_space_prefix.specs.Tables.{AreListed}
use Rattle.vd_space_tables.specs.declared.charges.Charge.{Charge}
use Rattle.vd_space_tables.specs.Charges.{IsCharge, charge_of, telling_of}
use Rattle.vd_space_tables.specs.Arcs.{AreArcsOf}
use Rattle.vd_space_tables.specs.Parts.{AreSmallOnSlots}
use Rattle.vd_space_tables.proofs.Small.{zero_within, more_within, charge_more, told_small, operation_small, merged_small}
use Rattle.vd_space_tables.proofs.Charged.{one_under}
use Rattle.vd_space_tables.proofs.Told.{guard_is, telling_small}

pub sum_within : (a b : ℕ) (x y : ℤ) → IsWithin a x → IsWithin b y → IsWithin (a + b) (x +ℤ y)
sum_within a b x y first second =
    let first_low = first.low in let first_high = first.high in let second_low = second.low in let second_high = second.high in
    record { low = omega (arith, ints, first_low, first_high, second_low, second_high); high = omega (arith, ints, first_low, first_high, second_low, second_high) }

pub total_within : {X : Type 0} (most : ℕ) (f : X → ℤ) (xs : List X) → All (λ x. IsWithin most (f x)) xs → IsWithin (most * length xs) (total f xs)
total_within most f [] each = zero_within (most * 0)
total_within most f (x ∷ xs) each =
    more_within (most + most * length xs) (most * length (x ∷ xs)) (total f (x ∷ xs)) (omega arith)
    (sum_within most (most * length xs) (f x) (total f xs) (each 0 x (omega arith)) (total_within most f xs (All-tail (λ y. IsWithin most (f y)) x xs each)))

-- ---- terms of one slot

charge_within : (most : ℕ) (charge : Charge) (item : Option ℕ) → IsCharge most charge → IsWithin most (option_map_or (λ p. get_or charge.costs p (pos 0)) item charge.free)
charge_within most charge None is = is.free
charge_within most charge (Some p) is = is.costs p

one_within : (problem : Problem) (one : One) (prefix : List ℕ) (most : ℕ) → AreListed problem prefix → IsCharge most (charge_of problem one) → IsWithin most (least_one problem prefix one)
one_within problem one prefix most listed is = subst (IsWithin most) (sym (one_under problem one prefix listed)) (charge_within most (charge_of problem one) (slice_get prefix one.slot) is)

module _ (problem : Problem) (labelled : IsLabelled problem) (limits : IsWithinLimits problem) where
  output_charge : (o : Output) → o.weight ≤ 65536 → IsCharge 1073741824 (charge_of problem (output_term problem o))
  output_charge o light = told_small problem labelled o.slot.0 o.weight o.host light

  pub output_charges : All (λ (o : Output). IsCharge 1073741824 (charge_of problem (output_term problem o))) problem.outputs
  output_charges k d low = output_charge (get_or problem.outputs k d) (limits.outputs k d low)

  module _ (prefix : List ℕ) (listed : AreListed problem prefix) where
    operations_within : IsWithin (1125899906842624 * length problem.slots) (total (least_one problem prefix) (map (operation_term problem) (slots_of problem)))
    operations_within =
        let size = length-range_with_len 0 (length problem.slots) in
        subst (IsWithin (1125899906842624 * length problem.slots)) (sym (total_map (least_one problem prefix) (operation_term problem) (slots_of problem)))
        (more_within (1125899906842624 * length (slots_of problem)) (1125899906842624 * length problem.slots) (total (λ s. least_one problem prefix (operation_term problem s)) (slots_of problem)) (omega (arith, size))
        (total_within 1125899906842624 (λ s. least_one problem prefix (operation_term problem s)) (slots_of problem) (λ k d low. one_within problem (operation_term problem (get_or (slots_of problem) k d)) prefix 1125899906842624 listed (operation_small problem labelled limits (get_or (slots_of problem) k d)))))

    outputs_within : IsWithin (1125899906842624 * length problem.outputs) (total (least_one problem prefix) (map (output_term problem) problem.outputs))
    outputs_within =
        subst (IsWithin (1125899906842624 * length problem.outputs)) (sym (total_map (least_one problem prefix) (output_term problem) problem.outputs))
        (total_within 1125899906842624 (λ o. least_one problem prefix (output_term problem o)) problem.outputs
        (λ k d low. one_within problem (output_term problem (get_or problem.outputs k d)) prefix 1125899906842624 listed (charge_more 1073741824 1125899906842624 (charge_of problem (output_term problem (get_or problem.outputs k d))) (omega arith) (output_charges k d low))))

    pub ones_within : IsWithin (1125899906842624 * length problem.slots + 1125899906842624 * length problem.outputs) (total (least_one problem prefix) (ones problem))
    ones_within =
        subst (IsWithin (1125899906842624 * length problem.slots + 1125899906842624 * length problem.outputs)) (sym (total_append (least_one problem prefix) (map (operation_term problem) (slots_of problem)) (map (output_term problem) problem.outputs)))
        (sum_within (1125899906842624 * length problem.slots) (1125899906842624 * length problem.outputs) (total (least_one problem prefix) (map (operation_term problem) (slots_of problem))) (total (least_one problem prefix) (map (output_term problem) problem.outputs)) operations_within outputs_within)

    -- each guard is told at four hosts at most
    guard_within : (guard : Guard) → guard.weight ≤ 65536 → IsWithin 4294967296 (guard_sum problem prefix guard)
    guard_within guard light =
        let t = telling_of problem guard in
        let size = length-range_with_len 0 (length problem.hosts) in
        let few = labelled.few_hosts in
        subst (IsWithin 4294967296) (guard_is problem guard prefix listed)
        (more_within (1073741824 * length (range_with_len 0 (length problem.hosts))) 4294967296 (guard_under problem prefix guard t) (omega (arith, size, few))
        (total_within 1073741824 (told_if problem prefix guard t) (range_with_len 0 (length problem.hosts)) (λ k d low. told_within guard t (telling_small problem guard labelled light) (get_or (range_with_len 0 (length problem.hosts)) k d))))
      where
        item_within : (t : Telling) (h : ℕ) (item : Option ℕ) → IsTelling t → IsWithin 1073741824 (option_map_or (λ p. get_or (get_or t.costs h []) p (pos 0)) item (get_or t.free h (pos 0)))
        item_within t h None is = is.free h
        item_within t h (Some p) is = is.costs h p

        part_within : (part : Bool) (z : ℤ) → IsWithin 1073741824 z → IsWithin 1073741824 (cond part z (pos 0))
        part_within true z is = is
        part_within false z is = zero_within 1073741824

        told_within : (guard : Guard) (t : Telling) → IsTelling t → (h : ℕ) → IsWithin 1073741824 (told_if problem prefix guard t h)
        told_within guard t is h = part_within (takes_part problem prefix guard (host h)) (told_under t prefix h) (item_within t h (slice_get prefix t.slot) is)

    pub guards_within : IsWithin (4294967296 * length problem.guards) (guards_total problem (least_one problem prefix) prefix)
    guards_within = total_within 4294967296 (guard_sum problem prefix) problem.guards (λ k d low. guard_within (get_or problem.guards k d) (limits.guards k d low))

    module _ (shifts : List Shift) (small : AreSmallOnSlots problem shifts) where
      pub shifted_ones_within : IsWithin (1125899906842624 * length problem.slots) (total (least_one problem prefix) (shifted_ones problem shifts))
      shifted_ones_within =
          subst (IsWithin (1125899906842624 * length problem.slots)) (sym (total_map (least_one problem prefix) (shifted_one problem shifts) (slots_of problem)))
          (range_within 1125899906842624 (λ s. least_one problem prefix (shifted_one problem shifts s)) 0 (length problem.slots) (λ s low. one_within problem (shifted_one problem shifts s) prefix 1125899906842624 listed (merged_small problem labelled limits shifts s (λ p within. small s p (omega (arith, low)) within))))
        where
          range_within : (most : ℕ) (f : ℕ → ℤ) (first n : ℕ) → ((s : ℕ) → s < first + n → IsWithin most (f s)) → IsWithin (most * n) (total f (range_with_len first n))
          range_within most f first zero each = zero_within (most * 0)
          range_within most f first (suc n) each =
              more_within (most + most * n) (most * suc n) (total f (range_with_len first (suc n))) (omega arith)
              (sum_within most (most * n) (f first) (total f (range_with_len (first + 1) n)) (each first (omega arith)) (range_within most f (first + 1) n (λ s low. each s (omega (arith, low)))))

-- ---- terms of two slots

left_within : (weight : ℕ) (price : Option ℕ) (t : ℤ) → weight ≤ 65536 → unwrap_or price 0 ≤ 848 → IsWithin 562949953421312 t → IsWithin 1125899906842624 (unwrap_or (option_map (λ v. v -ℤ t) (weigh weight price)) nothing_left)
left_within weight None t light low is = record { low = omega (arith, ints); high = omega (arith, ints) }
left_within weight (Some c) t light low is =
    let product : weight * c ≤ 65536 * 848 = mul-le-mul light low in
    let t_low = is.low in
    let t_high = is.high in
    record { low = omega (arith, ints, product, t_low, t_high); high = omega (arith, ints, product, t_low, t_high) }

places_within : (prices : List (List (Option ℕ))) (arc : Arc) → ArePrices prices → IsArc arc → (a b : Option ℕ) → IsWithin 1125899906842624 (at_places prices arc a b)
places_within prices arc are is None None = is.both
places_within prices arc are is (Some p) None = is.rows p
places_within prices arc are is None (Some q) = is.columns q
places_within prices arc are is (Some p) (Some q) = left_within arc.transfer.weight (priced prices p q) (taken arc.transfer p q) is.transfer.weight (are.few p q) (is.transfer.taken p q)

pub pairs_within : (problem : Problem) (prices : List (List (Option ℕ))) (terms : List Pair) (arcs : List Arc) (prefix : List ℕ) → ArePrices prices → AreArcsOf problem prices terms arcs → AreListed problem prefix
    → IsWithin (1125899906842624 * length terms) (total (least_pair problem prefix) terms)
pairs_within problem prices terms arcs prefix are by_arcs listed =
    total_within 1125899906842624 (least_pair problem prefix) terms
    (λ k d low.
    let found = by_arcs.under k (get_or terms k d) (slice_get-get_or terms k d low) in
    let is : IsArc found.0 = subst (λ o. IfSome o IsArc) found.1 (by_arcs.small k) in
    subst (IsWithin 1125899906842624) (found.2 prefix listed) (places_within prices found.0 are is (slice_get prefix found.0.transfer.first) (slice_get prefix found.0.transfer.second)))
