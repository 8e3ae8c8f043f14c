use Rattle.std.proofs.Common.{List, Ok, Err, subst, sym}
use Rattle.std.proofs.lemmas.Result.{err_from_is_err_and}
use Rattle.vd_base.specs.declared.protocols.Proto.{Proto}
use Rattle.vd_cmd_plan.proofs.Front.{any_memory}
use Rattle.vd_cmd_compile.proofs.Front.{can_run}
use Rattle.vd_excuse.specs.Talk.{IsPlayable}
use Rattle.vd_cmd_excuse.proofs.Explained.{are_asked, are_deals, chosen_two, playable, seen_two, told}
use Rattle.vd_cmd_excuse.proofs.Answered.{answer_at, checks_at, explained, not_consistent, not_excused, not_free}
use Rattle.vd_cmd_excuse.proofs.excuse_command.excuse_at.Goals as goal

pub expect_consistent-requires : goal.expect_consistent-requires
expect_consistent-requires c = are_deals c.args.runs c.requires.read

pub excused-requires-clause-runnable : goal.excused-requires-clause-runnable
excused-requires-clause-runnable c = can_run c.args.program.now c.args.assignment.now c.form-form.ensures.well_made c.form-form.ensures.fit c.requires.selected c.as_slice-protocols.result.now c.as_slice-protocols.ensures

pub excused-requires-clause-asked : goal.excused-requires-clause-asked
excused-requires-clause-asked c = are_asked c.args.runs c.requires.read (c.in_ok-expect_consistent.ensures {u = tt}).consistent

pub answer-requires-clause-runnable : goal.answer-requires-clause-runnable
answer-requires-clause-runnable c = can_run c.args.program.now c.args.assignment.now c.form-form.ensures.well_made c.form-form.ensures.fit c.requires.selected c.as_slice-protocols.result.now c.as_slice-protocols.ensures

pub answer-requires-clause-playable : goal.answer-requires-clause-playable
answer-requires-clause-playable c =
    let two = chosen_two c.args.program.now c.args.assignment.now c.form-form.ensures.well_made c.form-form.ensures.fit c.requires.selected c.requires.host.two (rw c.as_slice-protocols.ensures at (c.in_ok-expect_free.ensures {u = tt}).free) in
    let excused_at = rw c.as_slice-protocols.ensures at (c.in_ok-stored.ensures {u = tt}).excused in
    subst (λ (ps : List Proto). IsPlayable c.args.program.now ps c.args.runs.first c.args.runs.dealing.deals) (sym c.as_slice-protocols.ensures)
    (playable c.args.program.now c.args.assignment.now c.form-form.ensures.well_made c.form-form.ensures.fit c.requires.selected c.requires.host.two (rw c.as_slice-protocols.ensures at (c.in_ok-expect_free.ensures {u = tt}).free) c.args.host c.args.runs c.requires.read (c.in_ok-expect_consistent.ensures {u = tt}).consistent c.in_ok-stored.stored
    (excused_at c.requires.selected.labels two))

pub returns-in_err-expect_free-clause-executes : goal.returns-in_err-expect_free-clause-executes
returns-in_err-expect_free-clause-executes c = λ l valid.
    let p = err_from_is_err_and c.from_residual.result c.from_residual.ensures.1 in
    let free = rw c.as_slice-protocols.ensures at (c.in_err-expect_free.ensures {u = tt}).checks in
    rw (p.1, p.2) (not_free c.args.program.now c.args.host c.args.runs c.args.out.now l c.args.assignment.now c.in_err-expect_free.field-0.0 free)

pub returns-in_err-expect_consistent-clause-executes : goal.returns-in_err-expect_consistent-clause-executes
returns-in_err-expect_consistent-clause-executes c = λ l valid.
    let p = err_from_is_err_and c.from_residual-in_err-expect_consistent.result c.from_residual-in_err-expect_consistent.ensures.1 in
    let free = rw c.as_slice-protocols.ensures at (c.in_ok-expect_free.ensures {u = tt}).checks in
    rw (p.1, p.2)
    (not_consistent c.args.program.now c.args.host c.args.runs c.args.out.now l c.args.assignment.now free c.in_err-expect_consistent.field-0.0 (c.in_err-expect_consistent.ensures {u = tt}).checks)

pub returns-in_err-stored-clause-executes : goal.returns-in_err-stored-clause-executes
returns-in_err-stored-clause-executes c = λ l valid.
    let p = err_from_is_err_and c.from_residual-in_err-stored.result c.from_residual-in_err-stored.ensures.1 in
    let same = c.as_slice-protocols.ensures in
    let free = rw c.as_slice-protocols.ensures at (c.in_ok-expect_free.ensures {u = tt}).checks in
    let two = seen_two c.args.program.now c.args.assignment.now c.form-form.ensures.well_made c.form-form.ensures.fit c.requires.selected c.requires.host.two (rw c.as_slice-protocols.ensures at (c.in_ok-expect_free.ensures {u = tt}).free) l valid c.as_slice-protocols.result.now same in
    let checks = checks_at c.args.program.now c.args.host c.args.runs c.args.assignment.now.protocols c.as_slice-protocols.result.now same l (Err c.in_err-stored.field-0.0) ((c.in_err-stored.ensures {u = tt}).checks l two) in
    rw (p.1, p.2)
    (not_excused c.args.program.now c.args.host c.args.runs c.args.out.now l c.args.assignment.now free (c.in_ok-expect_consistent.ensures {u = tt}).checks c.in_err-stored.field-0.0 checks)

pub returns-in_err-answer-clause-executes : goal.returns-in_err-answer-clause-executes
returns-in_err-answer-clause-executes c = λ l valid outcomes files.
    let p = err_from_is_err_and c.from_residual-in_err-answer.result c.from_residual-in_err-answer.ensures.1 in rw (p.1, p.2) (any_memory _ files)

pub returns-clause-executes : goal.returns-clause-executes
returns-clause-executes c = λ l valid.
    let same = c.as_slice-protocols.ensures in
    let free = rw c.as_slice-protocols.ensures at (c.in_ok-expect_free.ensures {u = tt}).checks in
    let two = seen_two c.args.program.now c.args.assignment.now c.form-form.ensures.well_made c.form-form.ensures.fit c.requires.selected c.requires.host.two (rw c.as_slice-protocols.ensures at (c.in_ok-expect_free.ensures {u = tt}).free) l valid c.as_slice-protocols.result.now same in
    let checks = checks_at c.args.program.now c.args.host c.args.runs c.args.assignment.now.protocols c.as_slice-protocols.result.now same l (Ok c.in_ok-stored.stored) ((c.in_ok-stored.ensures {u = tt}).checks l two) in
    explained c.args.program.now c.args.host c.args.runs c.args.out.now l c.args.assignment.now free (c.in_ok-expect_consistent.ensures {u = tt}).checks c.in_ok-stored.stored c.in_ok-answer.answer checks
    (answer_at c.args.program.now c.args.host c.args.runs c.args.assignment.now.protocols c.as_slice-protocols.result.now same c.args.out.now c.in_ok-stored.stored c.as_slice.result.now c.in_ok-answer.answer c.as_slice.ensures (c.in_ok-answer.ensures {u = tt}))

pub returns-clause-tells : goal.returns-clause-tells
returns-clause-tells c = λ name named e.
    let two = chosen_two c.args.program.now c.args.assignment.now c.form-form.ensures.well_made c.form-form.ensures.fit c.requires.selected c.requires.host.two (rw c.as_slice-protocols.ensures at (c.in_ok-expect_free.ensures {u = tt}).free) in
    let excused_at = rw c.as_slice-protocols.ensures at (c.in_ok-stored.ensures {u = tt}).excused in
    told c.args.program.now c.args.assignment.now c.form-form.ensures.well_made c.form-form.ensures.fit c.requires.selected c.requires.host.two (rw c.as_slice-protocols.ensures at (c.in_ok-expect_free.ensures {u = tt}).free) c.args.host c.requires.host.one c.args.runs c.requires.read (c.in_ok-expect_consistent.ensures {u = tt}).consistent
    c.in_ok-stored.stored (excused_at c.requires.selected.labels two) c.args.out.now name named c.in_ok-answer.answer
    (answer_at c.args.program.now c.args.host c.args.runs c.args.assignment.now.protocols c.as_slice-protocols.result.now c.as_slice-protocols.ensures c.args.out.now c.in_ok-stored.stored c.as_slice.result.now c.in_ok-answer.answer c.as_slice.ensures (c.in_ok-answer.ensures {u = tt}))
