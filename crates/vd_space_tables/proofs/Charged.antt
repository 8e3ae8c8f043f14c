-- What charges read off lists by place mean for a problem.
use Rattle.std.proofs.Common.{◌≡◌, ℕ, zero, suc, ◌+◌, ◌<◌, Bool, Option, None, List, ◌∷◌, length, map, get_or, refl, sym, ap, ap₂, ◌∙◌, arith, ℤ, pos, ◌+ℤ◌, slice_get}
use Rattle.std.specs.Prelude.{unwrap_or, option_map}
use Rattle.std.specs.List.{range_with_len}
use Rattle.std.specs.Option.{option_map_or}
use Rattle.std.proofs.lemmas.Simd.{map-map}
use Rattle.vd_search_tree.specs.declared.shift.Shift.{Shift}
use Rattle.vd_space.specs.declared.problem.Problem.{Problem}
use Rattle.vd_space.specs.Validity.{protocols, is_candidate}
use Rattle.vd_space.specs.Costs.{One, total, operation_value}
use Rattle.vd_space.specs.Bounds.{nothing_left, least_one, add, outputs_value, slot_shift, shifted_one}
use Rattle.vd_space.proofs.Front.{one_by_place}
use Rattle.vd_space_prefix.specs.Transfers.{by_place, least_where}
use Rattle.vd_space_prefix.specs.Tables.{AreListed}
use Rattle.vd_space_prefix.proofs.Front.{at_place, where_same, Decided, stands, past, decided}
use Rattle.vd_space_tables.specs.declared.charges.Charge.{Charge}
use Rattle.vd_space_tables.specs.Charges.{charge_from, charge_of}
use Rattle.vd_space_tables.specs.Values.{merged_value}

range_same : {X : Type 0} (f g : ℕ → X) (first count : ℕ) → ((k : ℕ) → k < first + count → f k ≡ g k) → map f (range_with_len first count) ≡ map g (range_with_len first count)
range_same f g first zero same = refl
range_same f g first (suc count) same = ap₂ (λ x xs. x ∷ xs) (same first (omega arith)) (range_same f g (first + 1) count (λ k low. same k (omega arith)))

place_same : {X : Type 0} (n : ℕ) (f g : ℕ → X) → ((k : ℕ) → k < n → f k ≡ g k) → by_place n f ≡ by_place n g
place_same n f g same = range_same f g 0 n (λ k low. same k (omega arith))

pub charge_is : (problem : Problem) (one : One) (values : List (Option ℤ)) (tests : List Bool) → values ≡ by_place (length (protocols problem)) one.value → tests ≡ by_place (length (protocols problem)) (is_candidate problem one.slot)
    → charge_from one.slot values tests ≡ charge_of problem one
charge_is problem one values tests values_are tests_are =
    let make : List ℤ → ℤ → Charge = λ costs free. record { slot = one.slot; costs = costs; free = free } in
    ap₂ make
    (ap (map (λ value. unwrap_or value nothing_left)) values_are ∙ map-map (λ value. unwrap_or value nothing_left) one.value (range_with_len 0 (length (protocols problem))))
    (ap₂ (λ vs ts. unwrap_or (least_where ts (λ p. get_or vs p None)) nothing_left) values_are tests_are
    ∙ ap (λ o. unwrap_or o nothing_left) (where_same problem one.slot (λ p. get_or (by_place (length (protocols problem)) one.value) p None) one.value (λ p low. at_place (length (protocols problem)) one.value p None low)))

-- with what shifts put on a slot
pub merged_is : (problem : Problem) (shifts : List Shift) (slot : ℕ) (shifted : List ℤ) → ((p : ℕ) → p < length (protocols problem) → get_or shifted p (pos 0) ≡ total (slot_shift problem slot p) shifts)
    → by_place (length (protocols problem)) (merged_value problem slot shifted) ≡ by_place (length (protocols problem)) (shifted_one problem shifts slot).value
merged_is problem shifts slot shifted same =
    place_same (length (protocols problem)) (merged_value problem slot shifted) (shifted_one problem shifts slot).value
    (λ p low. ap (λ z. option_map (λ v. v +ℤ z) (add (operation_value problem slot p) (outputs_value problem slot p problem.outputs))) (same p low))

-- ---- under a prefix

abbrev pub charge_under : Charge → List ℕ → ℤ
charge_under charge prefix = option_map_or (λ p. get_or charge.costs p (pos 0)) (slice_get prefix charge.slot) charge.free

module _ (problem : Problem) (one : One) (prefix : List ℕ) where
  by_cases : Decided problem prefix one.slot → least_one problem prefix one ≡ charge_under (charge_of problem one) prefix
  by_cases (stands p at) =
      (one_by_place problem prefix one).decided p at
      ∙ sym (at_place (length (protocols problem)) (λ q. unwrap_or (one.value q) nothing_left) p (pos 0) at.listed)
      ∙ sym (ap (λ o. option_map_or (λ q. get_or (charge_of problem one).costs q (pos 0)) o (charge_of problem one).free) at.at)
  by_cases (past later none) =
      (one_by_place problem prefix one).free later
      ∙ sym (ap (λ o. option_map_or (λ q. get_or (charge_of problem one).costs q (pos 0)) o (charge_of problem one).free) none)

  pub one_under : AreListed problem prefix → least_one problem prefix one ≡ charge_under (charge_of problem one) prefix
  one_under listed = by_cases (decided problem prefix one.slot listed)
