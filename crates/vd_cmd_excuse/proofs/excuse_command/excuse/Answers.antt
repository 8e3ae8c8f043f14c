use Rattle.std.proofs.Common.{◌≤◌, length, subst, sym}
use Rattle.std.proofs.lemmas.Result.{err_from_is_err_and}
use Rattle.vd_base.specs.Limits.{most_hosts}
use Rattle.vd_core.specs.declared.normal.NormalForm.{NormalForm}
use Rattle.vd_cmd_excuse.specs.Runs.{AreRead}
use Rattle.vd_cmd_excuse.proofs.Answered.{files_refused, source_refused, with_runs}
use Rattle.vd_cmd_excuse.proofs.Held.{excuse_told}
use Rattle.vd_cmd_excuse.proofs.excuse_command.excuse.Goals as goal

pub load_runs-requires : goal.load_runs-requires
load_runs-requires g c = subst (λ (form : NormalForm). length form.hosts ≤ most_hosts) (sym c.form.ensures.same) c.form.ensures.well_made.limits.hosts

pub excuse_runs-requires-clause-read : goal.excuse_runs-requires-clause-read
excuse_runs-requires-clause-read g c = subst (λ (form : NormalForm). AreRead (length form.hosts) c.in_ok-runs.runs) c.form.ensures.same (c.in_ok-runs.ensures {u = tt}).read

pub returns-in_err-program-clause-executes : goal.returns-in_err-program-clause-executes
returns-in_err-program-clause-executes g c =
    let p = err_from_is_err_and c.from_residual.result c.from_residual.ensures.1 in
    let loads = rw c.as_str.ensures at (c.in_err-program.ensures {u = tt}).loads in
    rw (p.1, p.2) (source_refused c.args.words.now _ _ c.in_err-program.field-0.0 loads)

pub returns-in_err-runs-clause-executes : goal.returns-in_err-runs-clause-executes
returns-in_err-runs-clause-executes g c =
    let p = err_from_is_err_and c.from_residual-in_err-runs.result c.from_residual-in_err-runs.ensures.1 in
    let loads = rw c.as_str.ensures at (c.in_ok-program.ensures {u = tt}).loads in
    let reads = rw c.form.ensures.same at (c.in_err-runs.ensures {u = tt}).loads in
    rw (p.1, p.2) (files_refused c.args.words.now _ _ _ c.in_ok-program.program loads c.in_err-runs.field-0.0 reads)

pub returns-clause-executes : goal.returns-clause-executes
returns-clause-executes g c =
    let loads = rw c.as_str.ensures at (c.in_ok-program.ensures {u = tt}).loads in
    let reads = rw c.form.ensures.same at (c.in_ok-runs.ensures {u = tt}).loads in
    with_runs c.args.words.now _ _ _ c.in_ok-program.program loads c.in_ok-runs.runs c.excuse_runs.result reads c.excuse_runs.ensures.executes

pub returns-clause-tells : goal.returns-clause-tells
returns-clause-tells g c =
    let loads = rw c.as_str.ensures at (c.in_ok-program.ensures {u = tt}).loads in
    let given = rw c.as_str.ensures at (c.in_ok-program.ensures {u = tt}).given in
    excuse_told c.args.words.now (g.F.Files.view c.args.files.now) (g.F.Files.view c.load_program.new.files) c.in_ok-program.program c.form.result.now c.in_ok-runs.runs c.excuse_runs.result loads given c.form.ensures.same
    (c.in_ok-runs.ensures {u = tt}).given c.excuse_runs.ensures.tells
