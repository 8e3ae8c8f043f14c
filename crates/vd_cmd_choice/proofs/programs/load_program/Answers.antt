use Rattle.std.proofs.lemmas.Result.{err_from_is_err_and}
use Rattle.vd_cmd_choice.proofs.ReadPrograms.{fetch_refused, program_held, program_loaded}
use Rattle.vd_cmd_choice.proofs.programs.load_program.Goals as goal

pub returns-in_err-text-clause-loads : goal.returns-in_err-text-clause-loads
returns-in_err-text-clause-loads g c =
    let p = err_from_is_err_and c.from_residual.result c.from_residual.ensures.1 in
    rw (p.1, p.2) (fetch_refused c.args.name.now _ _ c.in_err-text.field-0.0 (c.in_err-text.ensures {u = tt}).loads)

pub returns-clause-loads : goal.returns-clause-loads
returns-clause-loads g c =
    program_loaded c.args.name.now _ _ c.in_ok-text.text c.program_of.result (c.in_ok-text.ensures {u = tt}).loads (rw c.as_slice.ensures at c.program_of.ensures.reads)

pub returns-clause-given : goal.returns-clause-given
returns-clause-given g c =
    program_held c.args.name.now (g.F.Files.view c.args.files.now) _ c.in_ok-text.text c.as_slice.result.now c.program_of.result (c.in_ok-text.ensures {u = tt}).loads c.as_slice.ensures
    c.program_of.ensures.is_run
