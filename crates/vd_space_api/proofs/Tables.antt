-- Rows by slot that hold what each slot costs at its candidates.
use Rattle.std.proofs.Common.{◌≡◌, ℕ, ◌<◌, Bool, true, false, Option, Some, None, List, [], ◌++◌, length, get_or, set, refl, sym, ap, ◌∙◌, subst, arith, ℤ, pos, ◌+ℤ◌, inl, inr}
use Rattle.std.specs.Prelude.{option_map}
use Rattle.std.proofs.lemmas.Int.{ints}
use Rattle.std.proofs.lemmas.Bool.{cases_eq}
use Rattle.std.proofs.lemmas.List.{length-set, get_or-set_same, get_or-set_other}
use Rattle.vd_search_tree.specs.declared.shift.Shift.{Shift}
use Rattle.vd_space.specs.declared.problem.Problem.{Problem}
use Rattle.vd_space.specs.Validity.{protocols, is_candidate}
use Rattle.vd_space.specs.Costs.{total, operation_value}
use Rattle.vd_space.specs.Bounds.{only_if, add, outputs_value, slot_shift}
use Rattle.vd_space.proofs.Front.{total_append}
use Rattle.vd_space_api.specs.Terms.{row_at, IsTable, terms_after}

module _ (problem : Problem) where
  -- one slot's row is changed
  pub set_table : (before after : ℕ → ℕ → Option ℤ) (terms : List (List (Option ℕ))) (slot : ℕ) (row : List (Option ℕ)) → IsTable problem before terms → slot < length problem.slots → length row ≡ length (protocols problem)
      → ((s p : ℕ) → (s ≡ slot → ⊥) → p < length (protocols problem) → after s p ≡ before s p)
      → ((p : ℕ) → p < length (protocols problem) → option_map pos (get_or row p None) ≡ only_if (is_candidate problem slot p) (after slot p))
      → IsTable problem after (set terms slot row)
  set_table before after terms slot row is low size others here =
      let same_length = length-set terms slot row in
      let slots = is.slots in
      let within : slot < length terms = omega (arith, slots, low) in
      record {
        slots = same_length ∙ slots;
        places = λ s low_s. elim (cases_eq s slot) [
          | inl same ↦ subst (λ k. length (row_at (set terms slot row) k) ≡ length (protocols problem)) (sym same) (ap length (get_or-set_same terms slot row [] within) ∙ size)
          | inr other ↦ ap length (get_or-set_other terms slot s row [] other) ∙ is.places s low_s
        ];
        terms = λ s p low_s low_p. elim (cases_eq s slot) [
          | inl same ↦ subst (λ k. option_map pos (get_or (row_at (set terms slot row) k) p None) ≡ only_if (is_candidate problem k p) (after k p)) (sym same)
              (ap (λ r. option_map pos (get_or r p None)) (get_or-set_same terms slot row [] within) ∙ here p low_p)
          | inr other ↦
              ap (λ r. option_map pos (get_or r p None)) (get_or-set_other terms slot s row [] other) ∙ is.terms s p low_s low_p
              ∙ ap (only_if (is_candidate problem s p)) (sym (others s p other low_p))
        ];
      }

  same_table : (before after : ℕ → ℕ → Option ℤ) (terms : List (List (Option ℕ))) → IsTable problem before terms → ((s p : ℕ) → after s p ≡ before s p) → IsTable problem after terms
  same_table before after terms is same = record {
    slots = is.slots;
    places = is.places;
    terms = λ s p low_s low_p. is.terms s p low_s low_p ∙ ap (only_if (is_candidate problem s p)) (sym (same s p));
  }

  -- ---- further shifts

  shift_by : (o : Option ℤ) (a b c : ℤ) → c ≡ a +ℤ b → option_map (λ v. v +ℤ c) o ≡ option_map (λ v. v +ℤ b) (option_map (λ v. v +ℤ a) o)
  shift_by None a b c is = refl
  shift_by (Some v) a b c is = ap Some (omega (arith, ints, is))

  pub shift_none : (o : Option ℤ) (b : ℤ) → b ≡ pos 0 → option_map (λ v. v +ℤ b) o ≡ o
  shift_none None b is = refl
  shift_none (Some v) b is = ap Some (omega (arith, ints, is))

  pub more_shifts : (shifts more : List Shift) (slot p : ℕ) → terms_after problem (shifts ++ more) slot p ≡ option_map (λ v. v +ℤ total (slot_shift problem slot p) more) (terms_after problem shifts slot p)
  more_shifts shifts more slot p =
      shift_by (add (operation_value problem slot p) (outputs_value problem slot p problem.outputs)) (total (slot_shift problem slot p) shifts) (total (slot_shift problem slot p) more) (total (slot_shift problem slot p) (shifts ++ more))
      (total_append (slot_shift problem slot p) shifts more)

  only_shift : (test : Bool) (o : Option ℤ) (b : ℤ) → only_if test (option_map (λ v. v +ℤ b) o) ≡ option_map (λ v. v +ℤ b) (only_if test o)
  only_shift true o b = refl
  only_shift false o b = refl

  -- the row of one slot is changed as further shifts change it, and no other
  pub shifted_table : (shifts more : List Shift) (terms : List (List (Option ℕ))) (slot : ℕ) (row : List (Option ℕ)) → IsTable problem (terms_after problem shifts) terms → slot < length problem.slots → length row ≡ length (protocols problem)
      → ((s p : ℕ) → (s ≡ slot → ⊥) → p < length (protocols problem) → total (slot_shift problem s p) more ≡ pos 0)
      → ((p : ℕ) → p < length (protocols problem) → option_map pos (get_or row p None) ≡ option_map (λ v. v +ℤ total (slot_shift problem slot p) more) (option_map pos (get_or (row_at terms slot) p None)))
      → IsTable problem (terms_after problem (shifts ++ more)) (set terms slot row)
  shifted_table shifts more terms slot row is low size others here =
      set_table (terms_after problem shifts) (terms_after problem (shifts ++ more)) terms slot row is low size
      (λ s p other low_p. more_shifts shifts more s p ∙ shift_none (terms_after problem shifts s p) (total (slot_shift problem s p) more) (others s p other low_p))
      (λ p low_p.
      here p low_p
      ∙ ap (option_map (λ v. v +ℤ total (slot_shift problem slot p) more)) (is.terms slot p low low_p)
      ∙ sym (only_shift (is_candidate problem slot p) (terms_after problem shifts slot p) (total (slot_shift problem slot p) more))
      ∙ ap (only_if (is_candidate problem slot p)) (sym (more_shifts shifts more slot p)))

  -- before any shift
  pub no_shifts : (terms : List (List (Option ℕ))) → IsTable problem (λ slot p. add (operation_value problem slot p) (outputs_value problem slot p problem.outputs)) terms → IsTable problem (terms_after problem []) terms
  no_shifts terms is = same_table (λ slot p. add (operation_value problem slot p) (outputs_value problem slot p problem.outputs)) (terms_after problem []) terms is
      (λ s p. shift_none (add (operation_value problem s p) (outputs_value problem s p problem.outputs)) (pos 0) refl)
