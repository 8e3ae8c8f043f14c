-- Which program the code of `turn` gives, by what it tests.
use Rattle.std.proofs.Common.{◌≡◌, Bool, true, false, ◌&&◌, if◌then◌else◌, List, [], map, refl, sym, ap, ◌∙◌, subst}
use Rattle.vd_base.specs.declared.ids.SlotId.{SlotId}
use Rattle.vd_core.specs.declared.normal.NormalForm.{NormalForm}
use Rattle.vd_core.specs.declared.normal.Slot.{Slot}
use Rattle.vd_core.specs.declared.normal.Stmt.{Stmt}
use Rattle.vd_core.specs.Facts.{meets, all_meet}
use Rattle.vd_rewrite.specs.Rewriting.{Made, made_at_start, kept_let, run_all, rewritings, all_made, with_made, some_changed, is_within}
use Rattle.vd_mux.specs.Selections.{with_selections, turned}
use Rattle.vd_rewrite.specs.Stops.{IsTooLarge}
use Rattle.std.specs.List.{list_all}
use Rattle.std.proofs.lemmas.List.Folds.{list_all-map}
use Rattle.vd_mux.specs.BooleanGuards.{is_truth_slot, keeps_truth, has_boolean_guards}
use Rattle.vd_rewrite.specs.Limits.{bodies_fit}
use Rattle.vd_mux.specs.Selections.{turned_where_boolean}
use Rattle.vd_rewrite.proofs.Front.{kept_makes, large_is_not_within}

module _ (hides : SlotId → Bool) (program : NormalForm) where
  abbrev changed : Bool
  changed = some_changed (rewritings hides (kept_let program.slots) program.slots program.body)

  turned_if : (b c : Bool) → changed ≡ b → is_within (with_selections hides program) ≡ c → turned hides program ≡ (if b && c then with_selections hides program else program)
  turned_if b c e e' = ap (λ (z : Bool). if z && is_within (with_selections hides program) then with_selections hides program else program) e ∙ ap (λ (z : Bool). if b && z then with_selections hides program else program) e'

  not_within : (b : Bool) → changed ≡ b → is_within (with_selections hides program) ≡ false → turned hides program ≡ program
  not_within true e e' = turned_if true false e e'
  not_within false e e' = turned_if false false e e'

  -- the same of what the code reads, which is the program's
  module _ (slots : List Slot) (body : List Stmt) (is_slots : slots ≡ program.slots) (is_body : body ≡ program.body) where
    abbrev pub anew : Made
    anew = run_all (rewritings hides (kept_let slots) slots body) [] 0 made_at_start

    anew_is : anew ≡ all_made hides (kept_let program.slots) program
    anew_is =
        ap (λ (z : List Slot). run_all (rewritings hides (kept_let z) z body) [] 0 made_at_start) is_slots
        ∙ ap (λ (z : List Stmt). run_all (rewritings hides (kept_let program.slots) program.slots z) [] 0 made_at_start) is_body

    pub large_is_old : IsTooLarge anew → turned hides program ≡ program
    large_is_old large = not_within changed refl (large_is_not_within hides (kept_let program.slots) 0 (kept_makes program.slots) program (subst IsTooLarge anew_is large))

    pub unfit_is_old : (stmts : List Stmt) → stmts ≡ anew.body → bodies_fit stmts ≡ false → turned hides program ≡ program
    unfit_is_old stmts e unfit = not_within changed refl (ap bodies_fit (sym (e ∙ ap (λ (m : Made). m.body) anew_is)) ∙ unfit)

    pub fit_is_new : (body' : List Stmt) → body' ≡ program.body → some_changed (rewritings hides (kept_let slots) slots body') ≡ true → (stmts : List Stmt) → stmts ≡ anew.body → bodies_fit stmts ≡ true
        → turned hides program ≡ with_made program anew
    fit_is_new body' same some stmts e fits =
        turned_if true true
        (sym (ap (λ (z : List Slot). some_changed (rewritings hides (kept_let z) z body')) is_slots ∙ ap (λ (z : List Stmt). some_changed (rewritings hides (kept_let program.slots) program.slots z)) same) ∙ some)
        (ap bodies_fit (sym (e ∙ ap (λ (m : Made). m.body) anew_is)) ∙ fits)
        ∙ ap (with_made program) (sym anew_is)

  -- a program whose guards are 0 or 1
  pub boolean_if : (b : Bool) → has_boolean_guards program ≡ b → turned_where_boolean hides program ≡ (if b then turned hides program else program)
  boolean_if b e = ap (λ (z : Bool). if z then turned hides program else program) e

  pub kept_is : (slots : List Slot) (body : List Stmt) → slots ≡ program.slots → body ≡ program.body
      → list_all (λ b. b) (map (meets (keeps_truth (λ x. is_truth_slot slots x.0))) body) ≡ has_boolean_guards program
  kept_is slots body is_slots is_body =
      list_all-map (λ (b : Bool). b) (meets (keeps_truth (λ x. is_truth_slot slots x.0))) body
      ∙ ap (λ (z : List Slot). all_meet (keeps_truth (λ x. is_truth_slot z x.0)) body) is_slots ∙ ap (λ (z : List Stmt). all_meet (keeps_truth (λ x. is_truth_slot program.slots x.0)) z) is_body

  pub not_changed : (slots : List Slot) (body : List Stmt) → slots ≡ program.slots → body ≡ program.body → some_changed (rewritings hides (kept_let slots) slots body) ≡ false → turned hides program ≡ program
  not_changed slots body is_slots is_body none =
      turned_if false (is_within (with_selections hides program))
      (sym (ap (λ (z : List Slot). some_changed (rewritings hides (kept_let z) z body)) is_slots ∙ ap (λ (z : List Stmt). some_changed (rewritings hides (kept_let program.slots) program.slots z)) is_body) ∙ none) refl
