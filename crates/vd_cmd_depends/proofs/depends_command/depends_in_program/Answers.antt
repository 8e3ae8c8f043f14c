use Rattle.std.proofs.Common.{ap}
use Rattle.std.proofs.lemmas.Result.{err_from_is_err_and}
use Rattle.vd_core.specs.declared.normal.NormalForm.{NormalForm}
use Rattle.vd_cmd_depends.proofs.Told.{answered, no_memory, told, unlabelled, unnamed}
use Rattle.vd_cmd_depends.proofs.depends_command.depends_in_program.Goals as goal

pub returns-in_err-group-clause-executes : goal.returns-in_err-group-clause-executes
returns-in_err-group-clause-executes c = λ least outcomes files.
    let p = err_from_is_err_and c.from_residual.result c.from_residual.ensures.1 in
    rw (p.1, p.2) (unnamed c.args.names.now c.args.program.now least outcomes files c.form.result.now.hosts (ap (λ (f : NormalForm). f.hosts) c.form.ensures.same) c.in_err-group.field-0.0 (c.in_err-group.ensures {u = tt}))

pub returns-in_err-labels-clause-executes : goal.returns-in_err-labels-clause-executes
returns-in_err-labels-clause-executes c = λ least outcomes files.
    let p = err_from_is_err_and c.from_residual-in_err-labels.result c.from_residual-in_err-labels.ensures.1 in
    rw (p.1, p.2)
    (unlabelled c.args.names.now c.args.program.now least outcomes files c.form.result.now.hosts (ap (λ (f : NormalForm). f.hosts) c.form.ensures.same) c.in_ok-group.group c.in_err-labels.field-0.0
    (c.in_ok-group.ensures {u = tt}) ((c.in_err-labels.ensures {u = tt}).checks least))

pub returns-in_err-sets-clause-executes : goal.returns-in_err-sets-clause-executes
returns-in_err-sets-clause-executes c = λ least outcomes files.
    let p = err_from_is_err_and c.from_residual-in_err-sets.result c.from_residual-in_err-sets.ensures.1 in
    rw (p.1, p.2) (no_memory c.args.names.now c.args.program.now least outcomes files c.form.result.now.hosts (ap (λ (f : NormalForm). f.hosts) c.form.ensures.same))

pub returns-clause-executes : goal.returns-clause-executes
returns-clause-executes c = λ least outcomes files.
    answered c.args.names.now c.args.program.now least outcomes files c.form.result.now.hosts (ap (λ (f : NormalForm). f.hosts) c.form.ensures.same) c.in_ok-group.group c.in_ok-labels.labels c.in_ok-sets.sets _
    c.form.ensures.well_made (c.in_ok-group.ensures {u = tt}) ((c.in_ok-labels.ensures {u = tt}).checks least) (c.in_ok-labels.ensures {u = tt}).least (rw c.as_slice.ensures at (c.in_ok-sets.ensures {u = tt})) (rw (c.as_slice-2.ensures, c.as_slice-3.ensures) at c.line_answer.ensures)

pub returns-clause-tells : goal.returns-clause-tells
returns-clause-tells c =
    told c.args.names.now c.args.program.now c.form.result.now.hosts c.in_ok-group.group c.in_ok-labels.labels c.in_ok-sets.sets _ c.form.ensures.well_made (ap (λ (f : NormalForm). f.hosts) c.form.ensures.same)
    (c.in_ok-group.ensures {u = tt}) (c.in_ok-labels.ensures {u = tt}).least (rw c.as_slice.ensures at (c.in_ok-sets.ensures {u = tt})) (rw (c.as_slice-2.ensures, c.as_slice-3.ensures) at c.line_answer.ensures)
