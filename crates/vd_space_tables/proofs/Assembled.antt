-- The parts of tables make them what they are for.
use Rattle.std.proofs.Common.{◌≡◌, ℕ, zero, suc, ◌+◌, ◌*◌, ◌<◌, ◌≤◌, Bool, true, false, cond, Option, Some, List, [], ◌∷◌, length, map, get_or, refl, sym, ap, ap₂, ◌∙◌, subst, arith, ℤ, pos, ◌+ℤ◌, ◌-ℤ◌, inl, inr, slice_get}
use Rattle.std.specs.Prelude.{◌==◌, unwrap_or}
use Rattle.std.specs.Option.{option_map}
use Rattle.std.proofs.lemmas.Int.{ints}
use Rattle.std.proofs.lemmas.Bool.{cases_Bool, cond-true, cond-false}
use Rattle.std.proofs.lemmas.List.{get_or_past, get_or-map, length-map}
use Rattle.std.proofs.lemmas.List.Elements.{All-append, All-cons, All-nil}
use Rattle.vd_search_tree.specs.declared.shift.Shift.{Shift}
use Rattle.vd_space.specs.declared.problem.Problem.{Problem}
use Rattle.vd_space.specs.declared.problem.Use.{Use}
use Rattle.vd_space.specs.declared.problem.Output.{Output}
use Rattle.vd_space.specs.Validity.{protocols}
use Rattle.vd_space.specs.Costs.{One, Pair, total, use_term, index_term, operation_term, output_term, ones, guards_total}
use Rattle.vd_space.specs.Bounds.{nothing_left, least_one, least_pair, shifted_one, shifted_ones, shifted_use, shifted_uses}
use Rattle.vd_space.specs.Growth.{with_choice, use_names, index_names, guard_names, pair_names}
use Rattle.vd_space.specs.Labelled.{IsLabelled}
use Rattle.vd_space.specs.Sizes.{IsWithinLimits}
use Rattle.vd_space.specs.WellFormed.{IsWellFormed}
use Rattle.vd_space.proofs.Front.{listed_or_not, total_map}
use Rattle.vd_space_prefix.specs.declared.naming.Naming.{Naming}
use Rattle.vd_space_prefix.specs.declared.tables.Tables.{Tables}
use Rattle.vd_space_prefix.specs.declared.transfers.Arc.{Arc}
use Rattle.vd_space_prefix.specs.Naming.{naming_of, numbers_from, all_at, allows}
use Rattle.vd_space_prefix.specs.Steps.{changes}
use Rattle.vd_space_prefix.specs.Guards.{guard_changes, AreTellings}
use Rattle.vd_space_prefix.specs.Tables.{AreListed, AreTables, AreSmallAt, IsFew, GrowsBy, gain_at, naming_at, no_naming, low_part, shifted_part, common_part}
use Rattle.vd_space_prefix.specs.Transfers.{IsWithin, by_place}
use Rattle.vd_space_prefix.proofs.Front.{naming_allows, naming_named, arcs_grow, guards_grow, numbered, unnumbered, shifted_numbered, at_place, size_by_place}
use Rattle.vd_space_tables.specs.Arcs.{AreArcsOf}
use Rattle.vd_space_tables.specs.declared.charges.Charge.{Charge}
use Rattle.vd_space_tables.specs.Charges.{IsCharge, charge_of, outputs_of, telling_of}
use Rattle.vd_space_tables.specs.Gains.{gain_by, gain_at_slot, gain_with, gains_with}
use Rattle.vd_space_tables.specs.Parts.{AreSmallOnSlots, HaveParts}
use Rattle.vd_space_tables.proofs.Small.{zero_within, more_within, operation_small, merged_small}
use Rattle.vd_space_tables.proofs.Told.{tellings_small, telling_at}
use Rattle.vd_space_tables.proofs.Gained.{ones_grow, shifted_ones_grow}
use Rattle.vd_space_tables.proofs.Bounds.{sum_within, total_within, output_charges, ones_within, shifted_ones_within, guards_within, pairs_within}

-- ---- numbers of what names a slot

fewer_numbers : {X : Type 0} (test : X → Bool) (first : ℕ) (xs : List X) → length (numbers_from test first xs) ≤ length xs
fewer_numbers test first [] = omega arith
fewer_numbers test first (x ∷ xs) =
    let rest = fewer_numbers test (first + 1) xs in
    elim (cases_Bool (test x)) [
      | inl named ↦ let here = ap length (cond-true (test x) (first ∷ numbers_from test (first + 1) xs) (numbers_from test (first + 1) xs) named) in omega (arith, rest, here)
      | inr other ↦ let here = ap length (cond-false (test x) (first ∷ numbers_from test (first + 1) xs) (numbers_from test (first + 1) xs) other) in omega (arith, rest, here)
    ]

few_named : (problem : Problem) → IsWithinLimits problem → (slot : ℕ) → IsFew (naming_of problem slot)
few_named problem limits slot =
    let count = limits.count in
    let uses = fewer_numbers (use_names slot) 0 problem.uses in
    let guards = fewer_numbers (guard_names slot) 0 problem.guards in
    let indexes = fewer_numbers (index_names slot) 0 problem.indexes in
    record { uses = omega (arith, count, uses); guards = omega (arith, count, guards); indexes = omega (arith, count, indexes) }

numbered_at : {X Y : Type 0} (g : ℕ → X → Y) (first : ℕ) (xs : List X) (k : ℕ) (x : X) → slice_get xs k ≡ Some x → slice_get (numbered g first xs) k ≡ Some (g (first + k) x)
numbered_at g first [] k x at = absurd (none_some x at)
  where
    none_some : {X : Type 0} (x : X) → slice_get [] k ≡ Some x → ⊥
    none_some x at = cc
numbered_at g first (y ∷ xs) zero x at = ap (option_map (g first)) at ∙ ap (λ n. Some (g n x)) (omega arith)
numbered_at g first (y ∷ xs) (suc k) x at = numbered_at g (first + 1) xs k x at ∙ ap (λ n. Some (g n x)) (omega arith)

pub uses_size : (problem : Problem) (shifts : List Shift) (first : ℕ) (us : List Use) → length (shifted_uses problem shifts first us) ≡ length us
uses_size problem shifts first [] = refl
uses_size problem shifts first (u ∷ us) = let rest = uses_size problem shifts (first + 1) us in omega (arith, rest)

-- ---- gains

module _ (problem : Problem) where
  abbrev many : ℕ
  many = length (protocols problem)

  module _ (outputs : List Charge) (term : ℕ → One) (n : ℕ) where
    abbrev charges : List Charge
    charges = by_place n (λ s. charge_of problem (term s))

    gain_is : (slot choice : ℕ) → slot < n → choice < many → gain_at (map (gains_with outputs) charges) slot choice ≡ gain_with outputs (charge_of problem (term slot)) choice
    gain_is slot choice low listed =
        let none : Charge = record { slot = 0; costs = []; free = pos 0 } in
        let size = size_by_place n (λ s. charge_of problem (term s)) in
        let row = get_or-map (gains_with outputs) charges slot none [] (omega (arith, size, low)) ∙ ap (gains_with outputs) (at_place n (λ s. charge_of problem (term s)) slot none low) in
        let places = size_by_place many (λ p. unwrap_or ((term slot).value p) nothing_left) in
        ap (λ gains. get_or gains choice (pos 0)) row
        ∙ at_place (length (charge_of problem (term slot)).costs) (gain_with outputs (charge_of problem (term slot))) choice (pos 0) (omega (arith, places, listed))

    gain_within : (most : ℕ) → ((slot choice : ℕ) → slot < n → IsWithin most (gain_with outputs (charge_of problem (term slot)) choice)) → (slot choice : ℕ) → IsWithin most (gain_at (map (gains_with outputs) charges) slot choice)
    gain_within most each slot choice = elim (listed_or_not n slot) [
      | inl low ↦ elim (listed_or_not many choice) [
        | inl listed ↦ subst (IsWithin most) (sym (gain_is slot choice low listed)) (each slot choice low)
        | inr past ↦
            let none : Charge = record { slot = 0; costs = []; free = pos 0 } in
            let size = size_by_place n (λ s. charge_of problem (term s)) in
            let row = get_or-map (gains_with outputs) charges slot none [] (omega (arith, size, low)) ∙ ap (gains_with outputs) (at_place n (λ s. charge_of problem (term s)) slot none low) in
            let places = size_by_place many (λ p. unwrap_or ((term slot).value p) nothing_left) in
            let row_size = size_by_place (length (charge_of problem (term slot)).costs) (gain_with outputs (charge_of problem (term slot))) in
            subst (IsWithin most) (sym (ap (λ gains. get_or gains choice (pos 0)) row ∙ get_or_past (gains_with outputs (charge_of problem (term slot))) choice (pos 0) (omega (arith, row_size, places, past)))) (zero_within most)
      ]
      | inr past ↦
          let size = size_by_place n (λ s. charge_of problem (term s)) in
          let rows = length-map charges (gains_with outputs) in
          subst (IsWithin most) (sym (ap (λ gains. get_or gains choice (pos 0)) (get_or_past (map (gains_with outputs) charges) slot [] (omega (arith, size, rows, past))) ∙ get_or_past [] choice (pos 0) (omega arith))) (zero_within most)
    ]

gain_by_within : (most : ℕ) (charge : Charge) (p : ℕ) → IsCharge most charge → IsWithin (2 * most) (gain_by charge p)
gain_by_within most charge p is =
    let cost = is.costs p in
    let cost_low = cost.low in let cost_high = cost.high in
    let free = is.free in
    let free_low = free.low in let free_high = free.high in
    record { low = omega (arith, ints, cost_low, cost_high, free_low, free_high); high = omega (arith, ints, cost_low, cost_high, free_low, free_high) }

own_within : (own : Bool) (most : ℕ) (z : ℤ) → IsWithin most z → IsWithin most (cond own z (pos 0))
own_within true most z is = is
own_within false most z is = zero_within most

outputs_gain_within : (problem : Problem) → IsLabelled problem → IsWithinLimits problem → (slot p : ℕ) → IsWithin (2147483648 * length problem.outputs) (total (gain_at_slot slot p) (outputs_of problem))
outputs_gain_within problem labelled limits slot p =
    let charge : Output → Charge = λ o. charge_of problem (output_term problem o) in
    subst (IsWithin (2147483648 * length problem.outputs)) (sym (total_map (gain_at_slot slot p) charge problem.outputs))
    (total_within 2147483648 (λ o. gain_at_slot slot p (charge o)) problem.outputs
    (λ k d low. own_within ((charge (get_or problem.outputs k d)).slot == slot) 2147483648 (gain_by (charge (get_or problem.outputs k d)) p) (gain_by_within 1073741824 (charge (get_or problem.outputs k d)) p (output_charges problem labelled limits k d low))))

-- ---- all of it

module _ (problem : Problem) (labelled : IsLabelled problem) (limits : IsWithinLimits problem) (tables : Tables) (parts : HaveParts problem tables) (small : AreSmallOnSlots problem tables.shifts) where
  naming_is : (slot : ℕ) → slot < length problem.slots → naming_at tables slot ≡ naming_of problem slot
  naming_is slot low = ap (λ naming. get_or naming slot no_naming) parts.naming ∙ at_place (length problem.slots) (naming_of problem) slot no_naming low

  few : (slot : ℕ) → IsFew (naming_at tables slot)
  few slot = elim (listed_or_not (length problem.slots) slot) [
    | inl low ↦ subst IsFew (sym (naming_is slot low)) (few_named problem limits slot)
    | inr past ↦
        let size = size_by_place (length problem.slots) (naming_of problem) in
        subst IsFew (sym (ap (λ naming. get_or naming slot no_naming) parts.naming ∙ get_or_past (by_place (length problem.slots) (naming_of problem)) slot no_naming (omega (arith, size, past))))
        (record { uses = omega arith; guards = omega arith; indexes = omega arith })
  ]

  gains_small : (slot choice : ℕ) → IsWithin 2305843009213693952 (gain_at tables.gains slot choice)
  gains_small slot choice =
      let count = limits.count in
      subst (λ gains. IsWithin 2305843009213693952 (gain_at gains slot choice)) (sym parts.gains)
      (gain_within problem (outputs_of problem) (operation_term problem) (length problem.slots) 2305843009213693952
      (λ s p low. more_within (2 * 1125899906842624 + 2147483648 * length problem.outputs) 2305843009213693952 (gain_with (outputs_of problem) (charge_of problem (operation_term problem s)) p) (omega (arith, count))
      (sum_within (2 * 1125899906842624) (2147483648 * length problem.outputs) (gain_by (charge_of problem (operation_term problem s)) p) (total (gain_at_slot s p) (outputs_of problem))
      (gain_by_within 1125899906842624 (charge_of problem (operation_term problem s)) p (operation_small problem labelled limits s)) (outputs_gain_within problem labelled limits s p)))
      slot choice)

  shifted_gains_small : (slot choice : ℕ) → IsWithin 2305843009213693952 (gain_at tables.shifted_gains slot choice)
  shifted_gains_small slot choice =
      subst (λ gains. IsWithin 2305843009213693952 (gain_at gains slot choice)) (sym parts.shifted_gains)
      (gain_within problem [] (shifted_one problem tables.shifts) (length problem.slots) 2305843009213693952
      (λ s p low. more_within (2 * 1125899906842624 + 0) 2305843009213693952 (gain_with [] (charge_of problem (shifted_one problem tables.shifts s)) p) (omega arith)
      (sum_within (2 * 1125899906842624) 0 (gain_by (charge_of problem (shifted_one problem tables.shifts s)) p) (pos 0)
      (gain_by_within 1125899906842624 (charge_of problem (shifted_one problem tables.shifts s)) p (merged_small problem labelled limits tables.shifts s (λ q within. small s q low within))) (zero_within 0)))
      slot choice)

  parts_small : (prefix : List ℕ) → AreListed problem prefix → AreSmallAt problem tables.shifts prefix
  parts_small prefix listed =
      let count = limits.count in
      let uses = length-map problem.uses (use_term problem) in
      let moved = uses_size problem tables.shifts 0 problem.uses in
      let indexes = length-map problem.indexes (index_term problem) in
      record {
        low = more_within (1125899906842624 * length problem.slots + 1125899906842624 * length problem.outputs + 1125899906842624 * length (map (use_term problem) problem.uses)) 2305843009213693952 (low_part problem prefix) (omega (arith, count, uses))
            (sum_within (1125899906842624 * length problem.slots + 1125899906842624 * length problem.outputs) (1125899906842624 * length (map (use_term problem) problem.uses)) (total (least_one problem prefix) (ones problem)) (total (least_pair problem prefix) (map (use_term problem) problem.uses))
            (ones_within problem labelled limits prefix listed) (pairs_within problem tables.moves (map (use_term problem) problem.uses) tables.arcs prefix parts.moves parts.arcs listed));
        shifted = more_within (1125899906842624 * length problem.slots + 1125899906842624 * length (shifted_uses problem tables.shifts 0 problem.uses)) 2305843009213693952 (shifted_part problem tables.shifts prefix) (omega (arith, count, moved))
            (sum_within (1125899906842624 * length problem.slots) (1125899906842624 * length (shifted_uses problem tables.shifts 0 problem.uses)) (total (least_one problem prefix) (shifted_ones problem tables.shifts)) (total (least_pair problem prefix) (shifted_uses problem tables.shifts 0 problem.uses))
            (shifted_ones_within problem labelled limits prefix listed tables.shifts small) (pairs_within problem tables.moves (shifted_uses problem tables.shifts 0 problem.uses) tables.shifted_arcs prefix parts.moves parts.shifted_arcs listed));
        common = more_within (1125899906842624 * length (map (index_term problem) problem.indexes) + 4294967296 * length problem.guards) 2305843009213693952 (common_part problem prefix) (omega (arith, count, indexes))
            (sum_within (1125899906842624 * length (map (index_term problem) problem.indexes)) (4294967296 * length problem.guards) (total (least_pair problem prefix) (map (index_term problem) problem.indexes)) (guards_total problem (least_one problem prefix) prefix)
            (pairs_within problem tables.tells (map (index_term problem) problem.indexes) tables.index_arcs prefix parts.tells parts.index_arcs listed) (guards_within problem labelled limits prefix listed));
      }

  module _ (prefix : List ℕ) (choice : ℕ) (listed : AreListed problem prefix) (room : length prefix < length problem.slots) (low : choice < length (protocols problem)) where
    listed_after : AreListed problem (with_choice prefix choice)
    listed_after = All-append (λ p. p < length (protocols problem)) prefix (choice ∷ []) listed (All-cons (λ p. p < length (protocols problem)) choice [] low (All-nil (λ p. p < length (protocols problem))))

    abbrev slot : ℕ
    slot = length prefix

    abbrev after : List ℕ
    after = with_choice prefix choice

    -- arcs of terms, each made of an item
    module _ {X : Type 0} (prices : List (List (Option ℕ))) (arcs : List Arc) (xs : List X) (g : ℕ → X → Pair) (terms : List Pair) (test : X → Bool) (same : (k : ℕ) (x : X) → pair_names slot (g k x) ≡ test x) (terms_are : numbered g 0 xs ≡ terms) (by_arcs : AreArcsOf problem prices terms arcs) where
      network_grow : changes prices arcs (numbers_from test 0 xs) prefix after ≡ total (least_pair problem after) terms -ℤ total (least_pair problem prefix) terms
      network_grow =
          arcs_grow problem prefix choice listed listed_after prices arcs xs g test same
          (λ k x at. by_arcs.under k (g k x) (ap (λ ts. slice_get ts k) (sym terms_are) ∙ numbered_at g 0 xs k x at ∙ ap (λ n. Some (g n x)) (omega arith)))
          ∙ ap (λ ts. total (least_pair problem after) ts -ℤ total (least_pair problem prefix) ts) terms_are

    low_grows : gain_at tables.gains slot choice +ℤ changes tables.moves tables.arcs (naming_at tables slot).uses prefix after ≡ low_part problem after -ℤ low_part problem prefix
    low_grows =
        let gain = ap (λ gains. gain_at gains slot choice) parts.gains ∙ gain_is problem (outputs_of problem) (operation_term problem) (length problem.slots) slot choice room low in
        let own = ones_grow problem prefix choice listed listed_after room in
        let named = ap (λ (n : Naming). changes tables.moves tables.arcs n.uses prefix after) (naming_is slot room) in
        let moved = network_grow tables.moves tables.arcs problem.uses (λ k. use_term problem) (map (use_term problem) problem.uses) (use_names slot) (λ k u. refl) (unnumbered (use_term problem) 0 problem.uses) parts.arcs in
        omega (arith, ints, gain, own, named, moved)

    shifted_grows : gain_at tables.shifted_gains slot choice +ℤ changes tables.moves tables.shifted_arcs (naming_at tables slot).uses prefix after ≡ shifted_part problem tables.shifts after -ℤ shifted_part problem tables.shifts prefix
    shifted_grows =
        let gain = ap (λ gains. gain_at gains slot choice) parts.shifted_gains ∙ gain_is problem [] (shifted_one problem tables.shifts) (length problem.slots) slot choice room low in
        let own = shifted_ones_grow problem prefix choice listed listed_after tables.shifts room in
        let named = ap (λ (n : Naming). changes tables.moves tables.shifted_arcs n.uses prefix after) (naming_is slot room) in
        let moved = network_grow tables.moves tables.shifted_arcs problem.uses (shifted_use problem tables.shifts) (shifted_uses problem tables.shifts 0 problem.uses) (use_names slot) (λ k u. refl) (shifted_numbered problem tables.shifts 0 problem.uses) parts.shifted_arcs in
        omega (arith, ints, gain, own, named, moved)

    common_grows : changes tables.tells tables.index_arcs (naming_at tables slot).indexes prefix after +ℤ guard_changes problem tables.tellings (naming_at tables slot).guards prefix after ≡ common_part problem after -ℤ common_part problem prefix
    common_grows =
        let named = ap (λ (n : Naming). changes tables.tells tables.index_arcs n.indexes prefix after) (naming_is slot room) in
        let told = network_grow tables.tells tables.index_arcs problem.indexes (λ k. index_term problem) (map (index_term problem) problem.indexes) (index_names slot) (λ k i. refl) (unnumbered (index_term problem) 0 problem.indexes) parts.index_arcs in
        let guards_named = ap₂ (λ ts (n : Naming). guard_changes problem ts n.guards prefix after) parts.tellings (naming_is slot room) in
        let guards = guards_grow problem prefix choice listed listed_after (map (telling_of problem) problem.guards) (telling_at problem) in
        omega (arith, ints, named, told, guards_named, guards)

    grows : GrowsBy problem tables prefix choice
    grows = record {
      named = ap (λ (n : Naming). all_at (guard_names slot) problem.guards n.guards) (naming_is slot room) ∙ naming_named problem slot;
      allowed = ap (λ naming. allows problem naming slot choice after) (naming_is slot room) ∙ naming_allows problem prefix choice;
      low = low_grows;
      shifted = shifted_grows;
      common = common_grows;
    }

  pub tables_are : IsWellFormed problem → AreTables problem tables
  tables_are formed =
      let count = limits.count in
      record {
        well_formed = formed;
        list = parts.list;
        few_protocols = parts.few;
        few_slots = omega (arith, count);
        slots = ap length parts.naming ∙ size_by_place (length problem.slots) (naming_of problem);
        moves = parts.moves;
        tells = parts.tells;
        arcs = parts.arcs.small;
        shifted_arcs = parts.shifted_arcs.small;
        index_arcs = parts.index_arcs.small;
        tellings = subst AreTellings (sym parts.tellings) (tellings_small problem labelled limits);
        gains = gains_small;
        shifted_gains = shifted_gains_small;
        few = few;
        small = parts_small;
        start = parts.start;
        grows = grows;
      }
