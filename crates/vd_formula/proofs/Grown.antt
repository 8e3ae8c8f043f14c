-- The formula of a written form over few names is a formula: where it is true at a set, it is true at all larger sets.
use Rattle.std.proofs.Common.{ℕ, ◌≤◌, Bool, false, Option, None, Some, List, [], ◌∷◌, map, length, refl, sym, subst, inl, inr}
use Rattle.std.specs.Prelude.{IsTrue, position}
use Rattle.std.specs.List.{list_all, list_any}
use Rattle.std.specs.Option.{option_map_or}
use Rattle.std.specs.Str.{bytes_eq}
use Rattle.std.proofs.lemmas.Bool.{and_parts, and_from, or_cases, or_left, or_right}
use Rattle.vd_base.specs.declared.form.Form.{Form, roll-Form, map-Form, ind-Form}
use Rattle.vd_base.specs.declared.form.Form.TheOpen.{Form-F}
use Rattle.vd_base.specs.declared.form.Form.TheFolds.{fold-roll-Form}
use Rattle.vd_formula.specs.TruthTable.{has, is_subset, IsFormula}
use Rattle.vd_formula.specs.Forms.{truth_step, truth, formula_of}
use Rattle.vd_formula.proofs.Tables.{subset-has, is_formula_where}

abbrev Truth : Type 0
Truth = List (List ℕ) → ℕ → Bool

abbrev Grows : Truth → Type 0
Grows t = (names : List (List ℕ)) (set larger : ℕ) → IsTrue (is_subset set larger) → IsTrue (t names set) → IsTrue (t names larger)

abbrev M : Type 0
M = (form : Form) × Grows (truth form)

abbrev layer : Form-F M → Form-F Form
layer = map-Form M Form (λ m. m.0)

abbrev truths : List M → List Truth
truths ms = map truth (map {B = Form} (λ (m : M). m.0) ms)

module _ (names : List (List ℕ)) (set larger : ℕ) (within : IsTrue (is_subset set larger)) where
  all_grow : (ms : List M) → IsTrue (list_all (λ (part : Truth). part names set) (truths ms)) → IsTrue (list_all (λ (part : Truth). part names larger) (truths ms))
  all_grow [] here = refl
  all_grow (m ∷ ms) here =
      let parts = and_parts (truth m.0 names set) (list_all (λ (part : Truth). part names set) (truths ms)) here in
      and_from (truth m.0 names larger) (list_all (λ (part : Truth). part names larger) (truths ms)) (m.1 names set larger within parts.0) (all_grow ms parts.1)

  any_grows : (ms : List M) → IsTrue (list_any (λ (part : Truth). part names set) (truths ms)) → IsTrue (list_any (λ (part : Truth). part names larger) (truths ms))
  any_grows [] here = here
  any_grows (m ∷ ms) here =
      elim (or_cases (truth m.0 names set) (list_any (λ (part : Truth). part names set) (truths ms)) here) [
        | inl first ↦ or_left (truth m.0 names larger) (list_any (λ (part : Truth). part names larger) (truths ms)) (m.1 names set larger within first)
        | inr later ↦ or_right (truth m.0 names larger) (list_any (λ (part : Truth). part names larger) (truths ms)) (any_grows ms later)
      ]

  name_grows : (place : Option ℕ) → IsTrue (option_map_or (has set) place false) → IsTrue (option_map_or (has larger) place false)
  name_grows None here = here
  name_grows (Some place) here = subset-has set larger place within here

step : (y : Form-F M) → Grows (truth_step (map-Form Form Truth truth (layer y)))
step Form-F.Any names set larger within here = refl
step Form-F.Never names set larger within here = here
step (Form-F.Name name) names set larger within here = name_grows names set larger within (position (bytes_eq name) names) here
step (Form-F.Both parts) names set larger within here = all_grow names set larger within parts here
step (Form-F.Either parts) names set larger within here = any_grows names set larger within parts here

grows : (form : Form) → Grows (truth form)
grows = ind-Form (λ form. Grows (truth form)) (λ x y is. subst (λ z. Grows (truth (roll-Form z))) is (subst Grows (sym (fold-roll-Form Truth truth_step (layer y))) (step y)))

pub is_formula-of : (form : Form) (names : List (List ℕ)) → length names ≤ 6 → IsFormula (formula_of form names)
unfolding formula_of
is_formula-of form names few = is_formula_where (length names) (truth form names) few (λ set larger h within here. grows form names set larger within here)
