-- Which program the code of `lengthen` gives, by what it tests.
use Rattle.std.proofs.Common.{◌≡◌, Bool, true, false, ◌&&◌, if◌then◌else◌, List, [], refl, sym, ap, ◌∙◌, subst}
use Rattle.vd_base.specs.declared.ids.SlotId.{SlotId}
use Rattle.vd_base.specs.Limits.{most_nesting}
use Rattle.std.specs.Prelude.{nat_le}
use Rattle.vd_core.specs.declared.normal.NormalForm.{NormalForm}
use Rattle.vd_core.specs.declared.normal.Slot.{Slot}
use Rattle.vd_core.specs.declared.normal.Stmt.{Stmt}
use Rattle.vd_core.specs.Facts.{nesting}
use Rattle.vd_rewrite.specs.Rewriting.{Made, made_at_start, run_all, rewritings, all_made, with_made, is_within}
use Rattle.vd_rewrite.specs.Stops.{IsTooLarge}
use Rattle.vd_rewrite.specs.Limits.{bodies_fit}
use Rattle.vd_rewrite.proofs.Front.{large_is_not_within}
use Rattle.vd_long.specs.Lengthened.{long_let, nothing_hidden, with_long_divisions, some_lengthened, is_nested, lengthened}
use Rattle.vd_long.proofs.LongSizes.{long_makes}

module _ (lengthens : SlotId → Bool) (program : NormalForm) where
  abbrev changed : Bool
  changed = some_lengthened lengthens program.body

  abbrev longer : NormalForm
  longer = with_long_divisions lengthens program

  if_tests : (a b c : Bool) → changed ≡ a → is_within longer ≡ b → is_nested longer ≡ c → lengthened lengthens program ≡ (if a && (b && c) then longer else program)
  if_tests a b c ea eb ec =
      ap (λ (z : Bool). if z && (is_within longer && is_nested longer) then longer else program) ea
      ∙ ap (λ (z : Bool). if a && (z && is_nested longer) then longer else program) eb
      ∙ ap (λ (z : Bool). if a && (b && z) then longer else program) ec

  not_changed_is : changed ≡ false → lengthened lengthens program ≡ program
  not_changed_is e = if_tests false (is_within longer) (is_nested longer) e refl refl

  not_within : (a : Bool) → changed ≡ a → is_within longer ≡ false → lengthened lengthens program ≡ program
  not_within true e e' = if_tests true false (is_nested longer) e e' refl
  not_within false e e' = not_changed_is e

  not_nested : (a b : Bool) → changed ≡ a → is_within longer ≡ b → is_nested longer ≡ false → lengthened lengthens program ≡ program
  not_nested true true e e' e'' = if_tests true true false e e' e''
  not_nested true false e e' e'' = not_within true e e'
  not_nested false b e e' e'' = not_changed_is e

  -- the same of what the code reads, which is the program's
  module _ (slots : List Slot) (body : List Stmt) (is_slots : slots ≡ program.slots) (is_body : body ≡ program.body) where
    abbrev pub anew : Made
    anew = run_all (rewritings nothing_hidden (long_let lengthens slots) slots body) [] 0 made_at_start

    anew_is : anew ≡ all_made nothing_hidden (long_let lengthens program.slots) program
    anew_is =
        ap (λ (z : List Slot). run_all (rewritings nothing_hidden (long_let lengthens z) z body) [] 0 made_at_start) is_slots
        ∙ ap (λ (z : List Stmt). run_all (rewritings nothing_hidden (long_let lengthens program.slots) program.slots z) [] 0 made_at_start) is_body

    new_body : (stmts : List Stmt) → stmts ≡ anew.body → stmts ≡ longer.body
    new_body stmts e = e ∙ ap (λ (m : Made). m.body) anew_is

    pub large_is_old : IsTooLarge anew → lengthened lengthens program ≡ program
    large_is_old large = not_within changed refl (large_is_not_within nothing_hidden (long_let lengthens program.slots) 1 (long_makes lengthens program.slots) program (subst IsTooLarge anew_is large))

    pub unfit_is_old : (stmts : List Stmt) → stmts ≡ anew.body → bodies_fit stmts ≡ false → lengthened lengthens program ≡ program
    unfit_is_old stmts e unfit = not_within changed refl (ap bodies_fit (sym (new_body stmts e)) ∙ unfit)

    pub deep_is_old : (stmts : List Stmt) → stmts ≡ anew.body → nat_le (nesting stmts) most_nesting ≡ false → lengthened lengthens program ≡ program
    deep_is_old stmts e deep = not_nested changed (is_within longer) refl refl (ap (λ (z : List Stmt). nat_le (nesting z) most_nesting) (sym (new_body stmts e)) ∙ deep)

    pub fit_is_new : (tested : List Stmt) → tested ≡ program.body → some_lengthened lengthens tested ≡ true → (stmts : List Stmt) → stmts ≡ anew.body → bodies_fit stmts ≡ true → nat_le (nesting stmts) most_nesting ≡ true
        → lengthened lengthens program ≡ with_made program anew
    fit_is_new tested same some stmts e fits nests =
        if_tests true true true (ap (some_lengthened lengthens) (sym same) ∙ some) (ap bodies_fit (sym (new_body stmts e)) ∙ fits) (ap (λ (z : List Stmt). nat_le (nesting z) most_nesting) (sym (new_body stmts e)) ∙ nests)
        ∙ ap (with_made program) (sym anew_is)

  pub not_changed : (body : List Stmt) → body ≡ program.body → some_lengthened lengthens body ≡ false → lengthened lengthens program ≡ program
  not_changed body is_body none = not_changed_is (ap (some_lengthened lengthens) (sym is_body) ∙ none)
