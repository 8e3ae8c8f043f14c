-- By the arcs and tellings of what names a slot, sums of least values grow as they should.
use Rattle.std.proofs.Common.{◌≡◌, ℕ, Bool, true, Option, Some, List, [], ◌∷◌, ◌++◌, length, map, filter, ◌&&◌, refl, sym, ap, ap₂, ◌∙◌, arith, ℤ, pos, ◌+ℤ◌, ◌-ℤ◌, inl, inr, slice_get}
use Rattle.std.specs.List.{list_all}
use Rattle.std.proofs.lemmas.Bool.{cases_Bool, cond-true, cond-false}
use Rattle.std.proofs.lemmas.Int.{ints}
use Rattle.std.specs.Option.{option_map_or}
use Rattle.vd_space.specs.declared.problem.Problem.{Problem}
use Rattle.vd_space.specs.declared.problem.Guard.{Guard}
use Rattle.vd_space.specs.Validity.{is_candidate, use_joins, output_joins, guard_told, index_told}
use Rattle.vd_space.specs.Costs.{Pair, total, guards_total}
use Rattle.vd_space.specs.Bounds.{least_one, least_pair}
use Rattle.vd_space.specs.Growth.{pair_names, guard_names, guard_sum, grown, with_choice, extends, use_names, output_names, index_names}
use Rattle.vd_space.proofs.Front.{total_grows, same_pair, same_guard}
use Rattle.vd_space_prefix.specs.declared.transfers.Arc.{Arc}
use Rattle.vd_space_prefix.specs.declared.guards.Telling.{Telling}
use Rattle.vd_space_prefix.specs.Naming.{numbers_from, naming_of, all_at, allows}
use Rattle.vd_space_prefix.specs.Steps.{under, change, changes}
use Rattle.vd_space_prefix.specs.Guards.{guard_under, change_of_guard, guard_change, guard_changes}
use Rattle.vd_space_prefix.specs.Tables.{AreListed}
use Rattle.vd_space_prefix.proofs.Changes.{changed}
use Rattle.vd_space_prefix.proofs.Numbering.{numbered, all_named, total_named, unnumbered}

-- what names the slot allows a choice as it should
pub naming_allows : (problem : Problem) (prefix : List ℕ) (choice : ℕ) → allows problem (naming_of problem (length prefix)) (length prefix) choice (with_choice prefix choice) ≡ extends problem prefix choice
naming_allows problem prefix choice =
    let slot = length prefix in
    let after = with_choice prefix choice in
    let uses = all_named (use_names slot) (use_joins problem after) problem.uses in
    let outputs = all_named (output_names slot) (output_joins problem after) problem.outputs in
    let guards = all_named (guard_names slot) (guard_told problem after) problem.guards in
    let indexes = all_named (index_names slot) (index_told problem after) problem.indexes in
    λ i. is_candidate problem slot choice && uses i && outputs i && guards i && indexes i

-- and the guards among it name the slot
passed : {X : Type 0} (test : X → Bool) (xs : List X) → list_all test (filter test xs) ≡ true
passed test [] = refl
passed test (x ∷ xs) = elim (cases_Bool (test x)) [
  | inl passes ↦ ap (list_all test) (cond-true (test x) (x ∷ filter test xs) (filter test xs) passes) ∙ ap₂ (λ a b. a && b) passes (passed test xs)
  | inr fails ↦ ap (list_all test) (cond-false (test x) (x ∷ filter test xs) (filter test xs) fails) ∙ passed test xs
]

pub naming_named : (problem : Problem) (slot : ℕ) → all_at (guard_names slot) problem.guards (naming_of problem slot).guards ≡ true
naming_named problem slot = all_named (guard_names slot) (guard_names slot) problem.guards ∙ passed (guard_names slot) problem.guards

module _ (problem : Problem) (prefix : List ℕ) (choice : ℕ) (listed : AreListed problem prefix) (listed_after : AreListed problem (with_choice prefix choice)) where
  -- arcs of terms of two slots, each made of an item
  module _ {X : Type 0} (prices : List (List (Option ℕ))) (arcs : List Arc) (xs : List X) (g : ℕ → X → Pair) (test : X → Bool) (same : (k : ℕ) (x : X) → pair_names (length prefix) (g k x) ≡ test x)
      (placed : (k : ℕ) (x : X) → slice_get xs k ≡ Some x → (arc : Arc) × (slice_get arcs k ≡ Some arc) × ((front : List ℕ) → AreListed problem front → under prices arc front ≡ least_pair problem front (g k x))) where
    each_change : (k : ℕ) (x : X) → slice_get xs k ≡ Some x → change prices arcs prefix (with_choice prefix choice) k ≡ grown (least_pair problem prefix) (least_pair problem (with_choice prefix choice)) (g k x)
    each_change k x at =
        let arc = placed k x at in
        changed prices arcs prefix (with_choice prefix choice) k arc.0 arc.1
        ∙ ap₂ (λ a b. a -ℤ b) (arc.2 (with_choice prefix choice) listed_after) (arc.2 prefix listed)

    pub arcs_grow : changes prices arcs (numbers_from test 0 xs) prefix (with_choice prefix choice) ≡ total (least_pair problem (with_choice prefix choice)) (numbered g 0 xs) -ℤ total (least_pair problem prefix) (numbered g 0 xs)
    arcs_grow =
        let named = total_named test (pair_names (length prefix)) g same (change prices arcs prefix (with_choice prefix choice)) (grown (least_pair problem prefix) (least_pair problem (with_choice prefix choice))) xs each_change in
        let grows = total_grows (pair_names (length prefix)) (least_pair problem prefix) (least_pair problem (with_choice prefix choice)) (same_pair problem prefix choice) (numbered g 0 xs) in
        omega (arith, ints, named, grows)

  -- tellings of guards
  module _ (tellings : List Telling)
      (placed : (k : ℕ) (guard : Guard) → slice_get problem.guards k ≡ Some guard → (t : Telling) × (slice_get tellings k ≡ Some t) × ((front : List ℕ) → AreListed problem front → guard_under problem front guard t ≡ guard_sum problem front guard)) where
    each_guard : (k : ℕ) (guard : Guard) → slice_get problem.guards k ≡ Some guard → guard_change problem tellings prefix (with_choice prefix choice) k ≡ grown (guard_sum problem prefix) (guard_sum problem (with_choice prefix choice)) guard
    each_guard k guard at =
        let telling = placed k guard at in
        ap (λ o. option_map_or (λ one. change_of_guard problem prefix (with_choice prefix choice) one (slice_get tellings k)) o (pos 0)) at
        ∙ ap (λ o. option_map_or (λ t. guard_under problem (with_choice prefix choice) guard t -ℤ guard_under problem prefix guard t) o (pos 0)) telling.1
        ∙ ap₂ (λ a b. a -ℤ b) (telling.2 (with_choice prefix choice) listed_after) (telling.2 prefix listed)

    pub guards_grow : guard_changes problem tellings (numbers_from (guard_names (length prefix)) 0 problem.guards) prefix (with_choice prefix choice) ≡ guards_total problem (least_one problem (with_choice prefix choice)) (with_choice prefix choice) -ℤ guards_total problem (least_one problem prefix) prefix
    guards_grow =
        let named = total_named (guard_names (length prefix)) (guard_names (length prefix)) (λ k guard. guard) (λ k guard. refl) (guard_change problem tellings prefix (with_choice prefix choice)) (grown (guard_sum problem prefix) (guard_sum problem (with_choice prefix choice))) problem.guards each_guard in
        let list = ap (λ guards. total (grown (guard_sum problem prefix) (guard_sum problem (with_choice prefix choice))) (filter (guard_names (length prefix)) guards)) (unnumbered (λ (guard : Guard). guard) 0 problem.guards ∙ map_same problem.guards) in
        let grows = total_grows (guard_names (length prefix)) (guard_sum problem prefix) (guard_sum problem (with_choice prefix choice)) (same_guard problem prefix choice) problem.guards in
        omega (arith, ints, named, list, grows)
      where
        map_same : (guards : List Guard) → map (λ (guard : Guard). guard) guards ≡ guards
        map_same [] = refl
        map_same (guard ∷ guards) = ap (λ rest. guard ∷ rest) (map_same guards)
