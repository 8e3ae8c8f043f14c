use Rattle.std.proofs.Common.{List, sym, ap, ◌∙◌, subst}
use Rattle.vd_core.specs.declared.normal.NormalForm.{NormalForm}
use Rattle.vd_core.specs.declared.normal.Slot.{Slot}
use Rattle.vd_core.specs.declared.normal.Stmt.{Stmt}
use Rattle.std.specs.Prelude.{nat_le}
use Rattle.vd_base.specs.Limits.{most_nesting}
use Rattle.vd_core.specs.Facts.{IsWellMade, nesting}
use Rattle.vd_rewrite.specs.Rewriting.{marked, with_made}
use Rattle.vd_long.proofs.LongProgram.{not_changed, anew, large_is_old, unfit_is_old, deep_is_old, fit_is_new}
use Rattle.vd_long.proofs.DivisionWellMade.{lengthened_well_made}
use Rattle.vd_long.proofs.lengthening.lengthen.Goals as goal

pub returns-in-Err-TooMany : goal.returns-in-Err-TooMany
returns-in-Err-TooMany c =
    let same = c.form-form.ensures.same in
    large_is_old (marked c.args.long.now) c.args.program.now c.as_slice.result.now c.as_slice-3.result.now (c.as_slice.ensures ∙ ap (λ (f : NormalForm). f.slots) same) (c.as_slice-3.ensures ∙ ap (λ (f : NormalForm). f.body) same)
    ((c.in-Err-TooMany.ensures {u = tt}).stop c.in-Err-TooMany.field-0-is)

pub returns-then-not-fit : goal.returns-then-not-fit
returns-then-not-fit c =
    let same = c.form-form.ensures.same in
    unfit_is_old (marked c.args.long.now) c.args.program.now c.as_slice.result.now c.as_slice-3.result.now (c.as_slice.ensures ∙ ap (λ (f : NormalForm). f.slots) same) (c.as_slice-3.ensures ∙ ap (λ (f : NormalForm). f.body) same)
    c.as_slice-in-Ok.result.now (c.as_slice-in-Ok.ensures ∙ (c.in-Ok.ensures {u = tt}).body) (sym (c.if-not-fit.ensures {u = tt}))

pub returns-then-not-nest_within : goal.returns-then-not-nest_within
returns-then-not-nest_within c =
    let same = c.form-form.ensures.same in
    deep_is_old (marked c.args.long.now) c.args.program.now c.as_slice.result.now c.as_slice-3.result.now (c.as_slice.ensures ∙ ap (λ (f : NormalForm). f.slots) same) (c.as_slice-3.ensures ∙ ap (λ (f : NormalForm). f.body) same)
    c.as_slice-in-Ok-2.result.now (c.as_slice-in-Ok-2.ensures ∙ (c.in-Ok.ensures {u = tt}).body) (sym (c.if-not-nest_within.ensures {u = tt}))

pub returns-then-not-is_some_long : goal.returns-then-not-is_some_long
returns-then-not-is_some_long c =
    let same = c.form-form.ensures.same in
    not_changed (marked c.args.long.now) c.args.program.now c.as_slice-2.result.now (c.as_slice-2.ensures ∙ ap (λ (f : NormalForm). f.body) same) (sym (c.if-not-is_some_long.ensures {u = tt}))

pub new-requires : goal.new-requires
new-requires c =
    let same = c.form-form.ensures.same in
    let lengthens = marked c.args.long.now in
    let program = c.args.program.now in
    let is_slots = c.as_slice.ensures ∙ ap (λ (f : NormalForm). f.slots) same in
    let is_body = c.as_slice-3.ensures ∙ ap (λ (f : NormalForm). f.body) same in
    let new =
    fit_is_new lengthens program c.as_slice.result.now c.as_slice-3.result.now is_slots is_body c.as_slice-2.result.now (c.as_slice-2.ensures ∙ ap (λ (f : NormalForm). f.body) same) (sym (c.if-not-is_some_long.ensures {u = tt}))
    c.as_slice-in-Ok.result.now (c.as_slice-in-Ok.ensures ∙ (c.in-Ok.ensures {u = tt}).body) (sym (c.if-not-fit.ensures {u = tt}))
    (ap (λ (stmts : List Stmt). nat_le (nesting stmts) most_nesting) (c.as_slice-in-Ok.ensures ∙ sym c.as_slice-in-Ok-2.ensures) ∙ sym (c.if-not-nest_within.ensures {u = tt})) in
    let made = anew lengthens program c.as_slice.result.now c.as_slice-3.result.now is_slots is_body in
    let form =
    c.in_ok-form-in-Ok.ensures {u = tt}
    ∙ ap (λ (f : NormalForm). record { principals = f.principals; hosts = f.hosts; labels = f.labels; slots = c.in-Ok.slots; body = c.in-Ok.body }) same
    ∙ ap (λ (slots : List Slot). record { principals = program.principals; hosts = program.hosts; labels = program.labels; slots = slots; body = c.in-Ok.body }) (c.in-Ok.ensures {u = tt}).slots
    ∙ ap (λ (body : List Stmt). with_made program (record { next = made.next; slots = made.slots; table = made.table; blocks = made.blocks; body = body })) (c.in-Ok.ensures {u = tt}).body in
    subst IsWellMade (sym (form ∙ sym new)) (lengthened_well_made lengthens program c.form-form.ensures.well_made)

pub returns-in_ok-form-in-Ok : goal.returns-in_ok-form-in-Ok
returns-in_ok-form-in-Ok c =
    let same = c.form-form.ensures.same in
    let lengthens = marked c.args.long.now in
    let program = c.args.program.now in
    let is_slots = c.as_slice.ensures ∙ ap (λ (f : NormalForm). f.slots) same in
    let is_body = c.as_slice-3.ensures ∙ ap (λ (f : NormalForm). f.body) same in
    let new =
    fit_is_new lengthens program c.as_slice.result.now c.as_slice-3.result.now is_slots is_body c.as_slice-2.result.now (c.as_slice-2.ensures ∙ ap (λ (f : NormalForm). f.body) same) (sym (c.if-not-is_some_long.ensures {u = tt}))
    c.as_slice-in-Ok.result.now (c.as_slice-in-Ok.ensures ∙ (c.in-Ok.ensures {u = tt}).body) (sym (c.if-not-fit.ensures {u = tt}))
    (ap (λ (stmts : List Stmt). nat_le (nesting stmts) most_nesting) (c.as_slice-in-Ok.ensures ∙ sym c.as_slice-in-Ok-2.ensures) ∙ sym (c.if-not-nest_within.ensures {u = tt})) in
    let made = anew lengthens program c.as_slice.result.now c.as_slice-3.result.now is_slots is_body in
    c.new.ensures ∙ c.in_ok-form-in-Ok.ensures {u = tt}
    ∙ ap (λ (f : NormalForm). record { principals = f.principals; hosts = f.hosts; labels = f.labels; slots = c.in-Ok.slots; body = c.in-Ok.body }) same
    ∙ ap (λ (slots : List Slot). record { principals = program.principals; hosts = program.hosts; labels = program.labels; slots = slots; body = c.in-Ok.body }) (c.in-Ok.ensures {u = tt}).slots
    ∙ ap (λ (body : List Stmt). with_made program (record { next = made.next; slots = made.slots; table = made.table; blocks = made.blocks; body = body })) (c.in-Ok.ensures {u = tt}).body
    ∙ sym new
