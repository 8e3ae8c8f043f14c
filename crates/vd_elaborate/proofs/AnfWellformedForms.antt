-- The principals of a form that was checked are declared.
use Rattle.std.proofs.Common.{◌≡◌, ℕ, true, ◌&&◌, List, [], ◌∷◌, map, Ok, refl, sym, ◌∙◌, subst, subst₂, rules}
use Rattle.std.specs.List.{list_all}
use Rattle.vd_base.specs.declared.form.Form.{Form}
use Rattle.vd_base.specs.declared.form.Form as form
use Rattle.vd_base.specs.declared.form.Form.TheFolds.{the_lemmas}
use Rattle.vd_base.specs.Names.{is_among}
use Rattle.vd_core.specs.declared.source.WrittenForm.{WrittenForm, roll-WrittenForm, map-WrittenForm, ind-WrittenForm}
use Rattle.vd_core.specs.declared.source.WrittenForm.TheOpen.{WrittenForm-F}
use Rattle.vd_core.specs.declared.source.WrittenForm.TheFolds.{fold-roll-WrittenForm}
use Rattle.vd_core.specs.declared.source.WrittenLabel.{WrittenLabel}
use Rattle.vd_core.specs.Facts.{form_is_declared}
use Rattle.vd_elaborate.specs.Normal.{form_step, form_of}
use Rattle.vd_resolve.specs.Rules.{FormCheck, all_known, form_known, form_check, label_check}
use Rattle.vd_elaborate.proofs.AnfWellformedSteps.{passed, known_is}
use Rattle.vd_elaborate.proofs.Distinct.{tagged, among_is}

module _ (principals : List (List ℕ)) where
  at_any : form_is_declared principals form.Any ≡ true
  at_any = search (rules, the_lemmas)

  at_never : form_is_declared principals form.Never ≡ true
  at_never = search (rules, the_lemmas)

  at_name_form : (x : List ℕ) → form_is_declared principals (form.Name x) ≡ is_among principals x
  at_name_form x = search (rules, the_lemmas)

  at_both : (fs : List Form) → form_is_declared principals (form.Both fs) ≡ list_all (λ b. b) (map (form_is_declared principals) fs)
  at_both fs = search (rules, the_lemmas)

  at_either : (fs : List Form) → form_is_declared principals (form.Either fs) ≡ list_all (λ b. b) (map (form_is_declared principals) fs)
  at_either fs = search (rules, the_lemmas)

  -- of a check, and the form that it is of
  abbrev Checks : FormCheck → Form → Type 0
  Checks check f = check (tagged principals) ≡ Ok tt → form_is_declared principals f ≡ true

  abbrev F : Type 0
  F = (f : WrittenForm) × Checks (form_check f) (form_of f)

  abbrev layer : WrittenForm-F F → WrittenForm-F WrittenForm
  layer = map-WrittenForm F WrittenForm (λ f. f.0)

  all : (fs : List F) → all_known (map form_check (map (λ (f : F). f.0) fs)) (tagged principals) ≡ Ok tt
      → list_all (λ b. b) (map (form_is_declared principals) (map form_of (map (λ (f : F). f.0) fs))) ≡ true
  all [] p = refl
  all (f ∷ fs) p =
      let s = passed (form_check f.0 (tagged principals)) (λ done. all_known (map form_check (map (λ (g : F). g.0) fs)) (tagged principals)) tt p in
      rw (f.1 s.1, all fs s.2) refl

  step : (y : WrittenForm-F F) → Checks (form_known (map-WrittenForm WrittenForm FormCheck form_check (layer y))) (form_step (map-WrittenForm WrittenForm Form form_of (layer y)))
  step WrittenForm-F.Any p = at_any
  step WrittenForm-F.Never p = at_never
  step (WrittenForm-F.Name x) p = at_name_form x.name ∙ sym (among_is principals x.name) ∙ known_is (tagged principals) x tt p
  step (WrittenForm-F.Both fs) p = at_both (map form_of (map (λ (f : F). f.0) fs)) ∙ all fs p
  step (WrittenForm-F.Either fs) p = at_either (map form_of (map (λ (f : F). f.0) fs)) ∙ all fs p

  pub form_declared : (f : WrittenForm) → form_check f (tagged principals) ≡ Ok tt → form_is_declared principals (form_of f) ≡ true
  form_declared = ind-WrittenForm (λ f. Checks (form_check f) (form_of f)) (λ x y is. subst (λ z. Checks (form_check (roll-WrittenForm z)) (form_of (roll-WrittenForm z))) is
      (subst₂ Checks (sym (fold-roll-WrittenForm FormCheck form_known (layer y))) (sym (fold-roll-WrittenForm Form form_step (layer y))) (step y)))

  pub label_declared : (l : WrittenLabel) → label_check l (tagged principals) ≡ Ok tt → (form_is_declared principals (form_of l.conf) && form_is_declared principals (form_of l.integ)) ≡ true
  label_declared l p =
      let s = passed (form_check l.conf (tagged principals)) (λ done. form_check l.integ (tagged principals)) tt p in
      rw (form_declared l.conf s.1, form_declared l.integ s.2) refl
