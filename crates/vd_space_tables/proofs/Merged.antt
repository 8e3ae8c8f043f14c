-- Charges of slots under shifts, and facts of all charges.
use Rattle.std.proofs.Common.{◌≡◌, ℕ, ◌<◌, Bool, false, Option, Some, List, [], ◌∷◌, suc, inl, inr, length, map, get_or, refl, sym, ap, ◌∙◌, subst, arith, ℤ, pos, ◌+ℤ◌, slice_get}
use Rattle.std.specs.Prelude.{All}
use Rattle.std.specs.List.{range_with_len}
use Rattle.std.specs.Option.{option_map_or}
use Rattle.std.proofs.lemmas.Int.{ints}
use Rattle.std.proofs.lemmas.List.{length-map, get_or-map}
use Rattle.std.proofs.lemmas.List.Elements.{All-map, All-nil}
use Rattle.std.proofs.lemmas.List.FromFn.{length-range_with_len, get_or-range_with_len}
use Rattle.std.proofs.lemmas.Option.{slice_get_cases}
use Rattle.vd_base.specs.declared.protocols.Proto.{Proto}
use Rattle.vd_search_tree.specs.declared.shift.Shift.{Shift}
use Rattle.vd_space.specs.declared.problem.Problem.{Problem}
use Rattle.vd_space.specs.declared.problem.Making.{Making}
use Rattle.vd_space.specs.declared.problem.Output.{Output}
use Rattle.vd_space.specs.Validity.{protocols, can_stand}
use Rattle.vd_space.specs.Costs.{One, Pair, total, operation_term, output_term, ones, slots_of}
use Rattle.vd_space.specs.Bounds.{least_one, least_pair, shifted_one, shifted_ones, slot_shift}
use Rattle.vd_space.specs.Labelled.{IsLabelled}
use Rattle.vd_space.specs.Sizes.{IsWithinLimits}
use Rattle.vd_space.proofs.Front.{total_append, total_map, total_ext}
use Rattle.vd_space_prefix.specs.declared.transfers.Arc.{Arc}
use Rattle.vd_space_prefix.specs.Tables.{AreListed, gain_at}
use Rattle.vd_space_prefix.specs.Transfers.{IsWithin, by_place}
use Rattle.vd_space_prefix.proofs.Front.{at_place}
use Rattle.vd_space_tables.specs.Arcs.{AreArcsOf}
use Rattle.vd_space_tables.specs.Prices.{candidates_of}
use Rattle.vd_space_tables.specs.Sums.{slot_shifts_of, AreSmallSums}
use Rattle.vd_space_tables.specs.declared.charges.Charge.{Charge}
use Rattle.vd_space_tables.specs.Charges.{AreCandidates, IsCharge, charge_from, charge_of, operations_of, outputs_of, merged_of}
use Rattle.vd_space_tables.specs.Values.{merged_value}
use Rattle.vd_space_tables.specs.Parts.{AreSmallOnSlots}
use Rattle.vd_space_tables.proofs.Small.{operation_small, merged_small}
use Rattle.vd_space_tables.proofs.Charged.{charge_is, merged_is, one_under}
use Rattle.vd_space_tables.proofs.Bounds.{output_charges}

-- ---- shifts

shift_at : (problem : Problem) (shifts : List Shift) (places slot p : ℕ) → slot < length problem.slots → p < places → get_or (get_or (slot_shifts_of problem shifts places) slot []) p (pos 0) ≡ total (slot_shift problem slot p) shifts
shift_at problem shifts places slot p low within =
    ap (λ row. get_or row p (pos 0)) (at_place (length problem.slots) (λ s. by_place places (λ q. total (slot_shift problem s q) shifts)) slot [] low)
    ∙ at_place places (λ q. total (slot_shift problem slot q) shifts) p (pos 0) within

pub small_on_slots : (problem : Problem) (shifts : List Shift) (list : List Proto) (sums : List (List ℤ)) → sums ≡ slot_shifts_of problem shifts (length list) → AreSmallSums sums → list ≡ protocols problem → AreSmallOnSlots problem shifts
small_on_slots problem shifts list sums are small list_is slot p low within =
    subst (IsWithin 562949953421312)
    (ap (λ s. gain_at s slot p) are ∙ shift_at problem shifts (length list) slot p low (subst (λ l. p < length l) (sym list_is) within))
    (small slot p)

pub merged_charged : (problem : Problem) (shifts : List Shift) (slot : ℕ) (list : List Proto) (candidates : List (List Bool)) (slice sums : List (List ℤ)) → slice ≡ sums → sums ≡ slot_shifts_of problem shifts (length list)
    → list ≡ protocols problem → AreCandidates problem candidates → slot < length problem.slots
    → charge_from slot (by_place (length list) (merged_value problem slot (get_or slice slot []))) (get_or candidates slot []) ≡ charge_of problem (shifted_one problem shifts slot)
merged_charged problem shifts slot list candidates slice sums same are list_is candidates_are low =
    charge_is problem (shifted_one problem shifts slot) (by_place (length list) (merged_value problem slot (get_or slice slot []))) (get_or candidates slot [])
    (ap (λ l. by_place (length l) (merged_value problem slot (get_or slice slot []))) list_is
    ∙ merged_is problem shifts slot (get_or slice slot [])
    (λ p within. ap (λ s. get_or (get_or s slot []) p (pos 0)) (same ∙ are) ∙ shift_at problem shifts (length list) slot p low (subst (λ l. p < length l) (sym list_is) within)))
    (candidates_are.rows slot low)

-- ---- candidates

pub are_candidates : (problem : Problem) (candidates : List (List Bool)) → candidates ≡ candidates_of problem → AreCandidates problem candidates
are_candidates problem candidates is = record {
  size = ap length is ∙ length-map problem.slots (λ making. by_place (length (protocols problem)) (can_stand problem making));
  rows = λ slot low. elim (slice_get_cases problem.slots slot).1 [
    | inl found ↦
        ap (λ rows. get_or rows slot []) is
        ∙ get_or-map (λ making. by_place (length (protocols problem)) (can_stand problem making)) problem.slots slot found.0 [] low
        ∙ ap (λ (making : Making). by_place (length (protocols problem)) (can_stand problem making)) found.3
        ∙ sym (ap (λ o. by_place (length (protocols problem)) (λ p. option_map_or (λ (making : Making). can_stand problem making p) o false)) found.2)
    | inr past ↦ absurd (omega (arith, past.0, low))
  ];
}

-- ---- all charges are small

module _ (problem : Problem) (labelled : IsLabelled problem) (limits : IsWithinLimits problem) where
  pub operations_small : All (IsCharge 1125899906842624) (operations_of problem)
  operations_small =
      All-map (IsCharge 1125899906842624) (λ s. charge_of problem (operation_term problem s)) (range_with_len 0 (length problem.slots))
      (λ k d low. operation_small problem labelled limits (get_or (range_with_len 0 (length problem.slots)) k d))

  pub outputs_small : All (IsCharge 1073741824) (outputs_of problem)
  outputs_small = All-map (IsCharge 1073741824) (λ (o : Output). charge_of problem (output_term problem o)) problem.outputs (output_charges problem labelled limits)

  pub merged_charges_small : (shifts : List Shift) → AreSmallOnSlots problem shifts → All (IsCharge 1125899906842624) (merged_of problem shifts)
  merged_charges_small shifts small =
      All-map (IsCharge 1125899906842624) (λ s. charge_of problem (shifted_one problem shifts s)) (range_with_len 0 (length problem.slots))
      (λ k d low.
      let size = length-range_with_len 0 (length problem.slots) in
      let at = get_or-range_with_len 0 (length problem.slots) k d (omega (arith, size, low)) in
      merged_small problem labelled limits shifts (get_or (range_with_len 0 (length problem.slots)) k d) (λ p within. small (get_or (range_with_len 0 (length problem.slots)) k d) p (omega (arith, at, size, low)) within))

-- ---- the empty prefix

none_listed : (problem : Problem) → AreListed problem []
none_listed problem = All-nil (λ p. p < length (protocols problem))

free_is : (problem : Problem) (one : One) → least_one problem [] one ≡ (charge_of problem one).free
free_is problem one = one_under problem one [] (none_listed problem)

charges_free : (problem : Problem) {X : Type 0} (term : X → One) (xs : List X) → total (least_one problem []) (map term xs) ≡ total (λ (charge : Charge). charge.free) (map (λ x. charge_of problem (term x)) xs)
charges_free problem term xs =
    total_map (least_one problem []) term xs
    ∙ total_ext (λ x. least_one problem [] (term x)) (λ x. (charge_of problem (term x)).free) (λ x. free_is problem (term x)) xs
    ∙ sym (total_map (λ (charge : Charge). charge.free) (λ x. charge_of problem (term x)) xs)

pub ones_free : (problem : Problem) → total (λ (charge : Charge). charge.free) (operations_of problem) +ℤ total (λ (charge : Charge). charge.free) (outputs_of problem) ≡ total (least_one problem []) (ones problem)
ones_free problem =
    let split = total_append (least_one problem []) (map (operation_term problem) (slots_of problem)) (map (output_term problem) problem.outputs) in
    let own = charges_free problem (operation_term problem) (slots_of problem) in
    let told = charges_free problem (output_term problem) problem.outputs in
    omega (arith, ints, split, own, told)

pub shifted_free : (problem : Problem) (shifts : List Shift) → total (λ (charge : Charge). charge.free) (merged_of problem shifts) ≡ total (least_one problem []) (shifted_ones problem shifts)
shifted_free problem shifts = sym (charges_free problem (shifted_one problem shifts) (slots_of problem))

-- two lists of one length whose items have the same numbers
same_totals : {X Y : Type 0} (f : X → ℤ) (g : Y → ℤ) (xs : List X) (ys : List Y) → length xs ≡ length ys → ((k : ℕ) (y : Y) → slice_get ys k ≡ Some y → (x : X) × (slice_get xs k ≡ Some x) × (f x ≡ g y)) → total f xs ≡ total g ys
same_totals f g [] [] size each = refl
same_totals f g [] (y ∷ ys) size each = absurd (omega (arith, size))
same_totals f g (x ∷ xs) [] size each = absurd (omega (arith, size))
same_totals f g (x ∷ xs) (y ∷ ys) size each =
    let first = each 0 y refl in
    let here : f x ≡ g y = ap f (some_same x first.0 first.1) ∙ first.2 in
    let rest = same_totals f g xs ys (omega (arith, size)) (λ k z at. each (suc k) z at) in
    omega (arith, ints, here, rest)
  where
    some_same : {X : Type 0} (a b : X) → Some a ≡ Some b → a ≡ b
    some_same a b is = cc

pub arcs_free : (problem : Problem) (prices : List (List (Option ℕ))) (terms : List Pair) (arcs : List Arc) → AreArcsOf problem prices terms arcs → total (λ (arc : Arc). arc.both) arcs ≡ total (least_pair problem []) terms
arcs_free problem prices terms arcs by_arcs =
    same_totals (λ (arc : Arc). arc.both) (least_pair problem []) arcs terms by_arcs.size
    (λ k term at. let found = by_arcs.under k term at in (found.0, found.1, found.2 [] (none_listed problem)))
