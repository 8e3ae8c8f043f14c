-- By the charges of a slot, the terms of slots grow as they should.
use Rattle.std.proofs.Common.{◌≡◌, ℕ, ◌<◌, false, cond, Option, Some, List, [], ◌∷◌, ◌++◌, length, map, get_or, refl, sym, ap, ap₂, ◌∙◌, arith, ℤ, pos, ◌-ℤ◌, inl, inr, slice_get}
use Rattle.std.specs.Prelude.{◌==◌}
use Rattle.std.specs.List.{range_with_len}
use Rattle.std.specs.Option.{option_map_or}
use Rattle.std.proofs.lemmas.Int.{ints}
use Rattle.std.proofs.lemmas.Bool.{cases_eq, cond-true, cond-false, eq-eqb, ne_eqb}
use Rattle.vd_search_tree.specs.declared.shift.Shift.{Shift}
use Rattle.vd_space.specs.declared.problem.Problem.{Problem}
use Rattle.vd_space.specs.declared.problem.Output.{Output}
use Rattle.vd_space.specs.Costs.{One, total, operation_term, output_term, ones, slots_of}
use Rattle.vd_space.specs.Bounds.{least_one, shifted_one, shifted_ones}
use Rattle.vd_space.specs.Growth.{with_choice}
use Rattle.vd_space.proofs.Front.{same_one, total_append, total_map, total_ext, total_once}
use Rattle.vd_space_prefix.specs.Tables.{AreListed}
use Rattle.vd_space_tables.specs.Charges.{charge_of, outputs_of}
use Rattle.vd_space_tables.specs.Gains.{gain_by, gain_at_slot, gain_with}
use Rattle.vd_space_tables.proofs.Charged.{one_under}

total_minus : {X : Type 0} (f g : X → ℤ) (xs : List X) → total (λ x. f x -ℤ g x) xs ≡ total f xs -ℤ total g xs
total_minus f g [] = omega (arith, ints)
total_minus f g (x ∷ xs) = let rest = total_minus f g xs in omega (arith, ints, rest)

last_item : (prefix : List ℕ) (choice : ℕ) → slice_get (prefix ++ choice ∷ []) (length prefix) ≡ Some choice
last_item [] choice = refl
last_item (p ∷ prefix) choice = last_item prefix choice

no_item : (prefix : List ℕ) → slice_get prefix (length prefix) ≡ slice_get [] 0
no_item [] = refl
no_item (p ∷ prefix) = no_item prefix

module _ (problem : Problem) (prefix : List ℕ) (choice : ℕ) (listed : AreListed problem prefix) (listed_after : AreListed problem (with_choice prefix choice)) where
  abbrev before : One → ℤ
  before = least_one problem prefix

  abbrev after : One → ℤ
  after = least_one problem (with_choice prefix choice)

  -- a term of the slot that is decided
  own_grows : (one : One) → one.slot ≡ length prefix → after one -ℤ before one ≡ gain_by (charge_of problem one) choice
  own_grows one own =
      let charge = charge_of problem one in
      let look : Option ℕ → ℤ = λ o. option_map_or (λ p. get_or charge.costs p (pos 0)) o charge.free in
      let first = one_under problem one (with_choice prefix choice) listed_after ∙ ap look (ap (slice_get (with_choice prefix choice)) own ∙ last_item prefix choice) in
      let second = one_under problem one prefix listed ∙ ap look (ap (slice_get prefix) own ∙ no_item prefix) in
      ap₂ (λ a b. a -ℤ b) first second

  -- another term
  other_stays : (one : One) → (one.slot == length prefix) ≡ false → after one -ℤ before one ≡ pos 0
  other_stays one other = let same = same_one problem prefix choice one other in omega (arith, ints, same)

  one_grows : (one : One) → after one -ℤ before one ≡ gain_at_slot (length prefix) choice (charge_of problem one)
  one_grows one = elim (cases_eq one.slot (length prefix)) [
    | inl own ↦ own_grows one own ∙ sym (cond-true (one.slot == length prefix) (gain_by (charge_of problem one) choice) (pos 0) (eq-eqb one.slot (length prefix) own))
    | inr other ↦
        let no = ne_eqb one.slot (length prefix) other in
        other_stays one no ∙ sym (cond-false (one.slot == length prefix) (gain_by (charge_of problem one) choice) (pos 0) no)
  ]

  -- one term for each slot
  module _ (term : ℕ → One) (slots : (s : ℕ) → (term s).slot ≡ s) where
    slot_grows : (s : ℕ) → after (term s) -ℤ before (term s) ≡ cond (length prefix == s) (gain_by (charge_of problem (term s)) choice) (pos 0)
    slot_grows s = elim (cases_eq (length prefix) s) [
      | inl own ↦ own_grows (term s) (slots s ∙ sym own) ∙ sym (cond-true (length prefix == s) (gain_by (charge_of problem (term s)) choice) (pos 0) (eq-eqb (length prefix) s own))
      | inr other ↦
          other_stays (term s) (ne_eqb (term s).slot (length prefix) (λ same. other (sym (sym (slots s) ∙ same))))
          ∙ sym (cond-false (length prefix == s) (gain_by (charge_of problem (term s)) choice) (pos 0) (ne_eqb (length prefix) s other))
    ]

    slots_grow : (n : ℕ) → length prefix < n → total after (map term (range_with_len 0 n)) -ℤ total before (map term (range_with_len 0 n)) ≡ gain_by (charge_of problem (term (length prefix))) choice
    slots_grow n low =
        let first = total_map after term (range_with_len 0 n) in
        let second = total_map before term (range_with_len 0 n) in
        let apart = total_minus (λ s. after (term s)) (λ s. before (term s)) (range_with_len 0 n) in
        let each = total_ext (λ s. after (term s) -ℤ before (term s)) (λ s. cond (length prefix == s) (gain_by (charge_of problem (term s)) choice) (pos 0)) slot_grows (range_with_len 0 n) in
        let once = total_once (length prefix) 0 n (λ s. gain_by (charge_of problem (term s)) choice) (omega arith) (omega (arith, low)) in
        omega (arith, ints, first, second, apart, each, once)

  outputs_grow : total after (map (output_term problem) problem.outputs) -ℤ total before (map (output_term problem) problem.outputs) ≡ total (gain_at_slot (length prefix) choice) (outputs_of problem)
  outputs_grow =
      let first = total_map after (output_term problem) problem.outputs in
      let second = total_map before (output_term problem) problem.outputs in
      let apart = total_minus (λ o. after (output_term problem o)) (λ o. before (output_term problem o)) problem.outputs in
      let each = total_ext (λ o. after (output_term problem o) -ℤ before (output_term problem o)) (λ o. gain_at_slot (length prefix) choice (charge_of problem (output_term problem o))) (λ o. one_grows (output_term problem o)) problem.outputs in
      let charged = total_map (gain_at_slot (length prefix) choice) (λ (o : Output). charge_of problem (output_term problem o)) problem.outputs in
      omega (arith, ints, first, second, apart, each, charged)

  pub ones_grow : length prefix < length problem.slots → total after (ones problem) -ℤ total before (ones problem) ≡ gain_with (outputs_of problem) (charge_of problem (operation_term problem (length prefix))) choice
  ones_grow low =
      let first = total_append after (map (operation_term problem) (slots_of problem)) (map (output_term problem) problem.outputs) in
      let second = total_append before (map (operation_term problem) (slots_of problem)) (map (output_term problem) problem.outputs) in
      let own = slots_grow (operation_term problem) (λ s. refl) (length problem.slots) low in
      let told = outputs_grow in
      omega (arith, ints, first, second, own, told)

  pub shifted_ones_grow : (shifts : List Shift) → length prefix < length problem.slots → total after (shifted_ones problem shifts) -ℤ total before (shifted_ones problem shifts) ≡ gain_with [] (charge_of problem (shifted_one problem shifts (length prefix))) choice
  shifted_ones_grow shifts low =
      let own = slots_grow (shifted_one problem shifts) (λ s. refl) (length problem.slots) low in
      omega (arith, ints, own)
