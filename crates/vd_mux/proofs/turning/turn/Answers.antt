use Rattle.std.proofs.Common.{true, false, List, sym, ap, ◌∙◌, subst}
use Rattle.vd_core.specs.declared.normal.NormalForm.{NormalForm}
use Rattle.vd_core.specs.declared.normal.Slot.{Slot}
use Rattle.vd_core.specs.declared.normal.Stmt.{Stmt}
use Rattle.vd_core.specs.Facts.{IsWellMade}
use Rattle.vd_rewrite.specs.Rewriting.{with_made}
use Rattle.vd_rewrite.specs.Rewriting.{marked}
use Rattle.vd_mux.proofs.Turned.{boolean_if, kept_is, not_changed, anew, large_is_old, unfit_is_old, fit_is_new}
use Rattle.vd_mux.proofs.SelectionsWellMade.{turned_well_made}
use Rattle.vd_mux.proofs.turning.turn.Goals as goal

pub returns-in-Err-TooMany : goal.returns-in-Err-TooMany
returns-in-Err-TooMany c =
    let same = c.form-form.ensures.same in
    (boolean_if (marked c.args.hidden.now) c.args.program.now true
    (sym (kept_is (marked c.args.hidden.now) c.args.program.now c.as_slice-2.result.now c.as_slice-3.result.now (c.as_slice-2.ensures ∙ ap (λ (f : NormalForm). f.slots) same) (c.as_slice-3.ensures ∙ ap (λ (f : NormalForm). f.body) same)) ∙ sym (c.if-not-are_kept.ensures {u = tt})))
    ∙ large_is_old (marked c.args.hidden.now) c.args.program.now c.as_slice.result.now c.as_slice-5.result.now (c.as_slice.ensures ∙ ap (λ (f : NormalForm). f.slots) same) (c.as_slice-5.ensures ∙ ap (λ (f : NormalForm). f.body) same)
    ((c.in-Err-TooMany.ensures {u = tt}).stop c.in-Err-TooMany.field-0-is)

pub returns-then-not-fit : goal.returns-then-not-fit
returns-then-not-fit c =
    let same = c.form-form.ensures.same in
    (boolean_if (marked c.args.hidden.now) c.args.program.now true
    (sym (kept_is (marked c.args.hidden.now) c.args.program.now c.as_slice-2.result.now c.as_slice-3.result.now (c.as_slice-2.ensures ∙ ap (λ (f : NormalForm). f.slots) same) (c.as_slice-3.ensures ∙ ap (λ (f : NormalForm). f.body) same)) ∙ sym (c.if-not-are_kept.ensures {u = tt})))
    ∙ unfit_is_old (marked c.args.hidden.now) c.args.program.now c.as_slice.result.now c.as_slice-5.result.now (c.as_slice.ensures ∙ ap (λ (f : NormalForm). f.slots) same) (c.as_slice-5.ensures ∙ ap (λ (f : NormalForm). f.body) same)
    c.as_slice-in-Ok.result.now (c.as_slice-in-Ok.ensures ∙ (c.in-Ok.ensures {u = tt}).body) (sym (c.if-not-fit.ensures {u = tt}))

pub new-requires : goal.new-requires
new-requires c =
    let same = c.form-form.ensures.same in
    let hides = marked c.args.hidden.now in
    let program = c.args.program.now in
    let is_slots = c.as_slice.ensures ∙ ap (λ (f : NormalForm). f.slots) same in
    let is_body = c.as_slice-5.ensures ∙ ap (λ (f : NormalForm). f.body) same in
    let new =
    fit_is_new hides program c.as_slice.result.now c.as_slice-5.result.now is_slots is_body c.as_slice-4.result.now (c.as_slice-4.ensures ∙ ap (λ (f : NormalForm). f.body) same) (sym (c.if-not-have_hidden_if.ensures {u = tt}))
    c.as_slice-in-Ok.result.now (c.as_slice-in-Ok.ensures ∙ (c.in-Ok.ensures {u = tt}).body) (sym (c.if-not-fit.ensures {u = tt})) in
    let made = anew hides program c.as_slice.result.now c.as_slice-5.result.now is_slots is_body in
    let form =
    c.in_ok-form-in-Ok.ensures {u = tt}
    ∙ ap (λ (f : NormalForm). record { principals = f.principals; hosts = f.hosts; labels = f.labels; slots = c.in-Ok.slots; body = c.in-Ok.body }) same
    ∙ ap (λ (slots : List Slot). record { principals = program.principals; hosts = program.hosts; labels = program.labels; slots = slots; body = c.in-Ok.body }) (c.in-Ok.ensures {u = tt}).slots
    ∙ ap (λ (body : List Stmt). with_made program (record { next = made.next; slots = made.slots; table = made.table; blocks = made.blocks; body = body })) (c.in-Ok.ensures {u = tt}).body in
    subst IsWellMade (sym (form ∙ sym new)) (turned_well_made hides program c.form-form.ensures.well_made)

pub returns-in_ok-form-in-Ok : goal.returns-in_ok-form-in-Ok
returns-in_ok-form-in-Ok c =
    let same = c.form-form.ensures.same in
    let hides = marked c.args.hidden.now in
    let program = c.args.program.now in
    let is_slots = c.as_slice.ensures ∙ ap (λ (f : NormalForm). f.slots) same in
    let is_body = c.as_slice-5.ensures ∙ ap (λ (f : NormalForm). f.body) same in
    let new =
    fit_is_new hides program c.as_slice.result.now c.as_slice-5.result.now is_slots is_body c.as_slice-4.result.now (c.as_slice-4.ensures ∙ ap (λ (f : NormalForm). f.body) same) (sym (c.if-not-have_hidden_if.ensures {u = tt}))
    c.as_slice-in-Ok.result.now (c.as_slice-in-Ok.ensures ∙ (c.in-Ok.ensures {u = tt}).body) (sym (c.if-not-fit.ensures {u = tt})) in
    let made = anew hides program c.as_slice.result.now c.as_slice-5.result.now is_slots is_body in
    c.new.ensures ∙ c.in_ok-form-in-Ok.ensures {u = tt}
    ∙ ap (λ (f : NormalForm). record { principals = f.principals; hosts = f.hosts; labels = f.labels; slots = c.in-Ok.slots; body = c.in-Ok.body }) same
    ∙ ap (λ (slots : List Slot). record { principals = program.principals; hosts = program.hosts; labels = program.labels; slots = slots; body = c.in-Ok.body }) (c.in-Ok.ensures {u = tt}).slots
    ∙ ap (λ (body : List Stmt). with_made program (record { next = made.next; slots = made.slots; table = made.table; blocks = made.blocks; body = body })) (c.in-Ok.ensures {u = tt}).body
    ∙ sym new
    ∙ sym (boolean_if (marked c.args.hidden.now) c.args.program.now true
    (sym (kept_is (marked c.args.hidden.now) c.args.program.now c.as_slice-2.result.now c.as_slice-3.result.now (c.as_slice-2.ensures ∙ ap (λ (f : NormalForm). f.slots) same) (c.as_slice-3.ensures ∙ ap (λ (f : NormalForm). f.body) same)) ∙ sym (c.if-not-are_kept.ensures {u = tt})))

pub returns-then-not-are_kept : goal.returns-then-not-are_kept
returns-then-not-are_kept c =
    let same = c.form-form.ensures.same in
    boolean_if (marked c.args.hidden.now) c.args.program.now false
    (sym (kept_is (marked c.args.hidden.now) c.args.program.now c.as_slice-2.result.now c.as_slice-3.result.now (c.as_slice-2.ensures ∙ ap (λ (f : NormalForm). f.slots) same) (c.as_slice-3.ensures ∙ ap (λ (f : NormalForm). f.body) same)) ∙ sym (c.if-not-are_kept.ensures {u = tt}))

pub returns-then-not-have_hidden_if : goal.returns-then-not-have_hidden_if
returns-then-not-have_hidden_if c =
    let same = c.form-form.ensures.same in
    (boolean_if (marked c.args.hidden.now) c.args.program.now true
    (sym (kept_is (marked c.args.hidden.now) c.args.program.now c.as_slice-2.result.now c.as_slice-3.result.now (c.as_slice-2.ensures ∙ ap (λ (f : NormalForm). f.slots) same) (c.as_slice-3.ensures ∙ ap (λ (f : NormalForm). f.body) same)) ∙ sym (c.if-not-are_kept.ensures {u = tt})))
    ∙ not_changed (marked c.args.hidden.now) c.args.program.now c.as_slice.result.now c.as_slice-4.result.now (c.as_slice.ensures ∙ ap (λ (f : NormalForm). f.slots) same) (c.as_slice-4.ensures ∙ ap (λ (f : NormalForm). f.body) same)
    (sym (c.if-not-have_hidden_if.ensures {u = tt}))
