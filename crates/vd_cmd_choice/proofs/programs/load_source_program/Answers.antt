use Rattle.std.proofs.lemmas.Result.{err_from_is_err_and}
use Rattle.vd_cmd_choice.proofs.ReadPrograms.{source_loaded, source_unfetched, source_unread}
use Rattle.vd_cmd_choice.proofs.programs.load_source_program.Goals as goal

pub returns-in_err-text-clause-loads : goal.returns-in_err-text-clause-loads
returns-in_err-text-clause-loads g c =
    let p = err_from_is_err_and c.from_residual.result c.from_residual.ensures.1 in
    rw (p.1, p.2) (source_unfetched c.args.name.now _ _ c.in_err-text.field-0.0 (c.in_err-text.ensures {u = tt}).loads)

pub returns-in_err-program-clause-loads : goal.returns-in_err-program-clause-loads
returns-in_err-program-clause-loads g c =
    let p = err_from_is_err_and c.from_residual-in_err-program.result c.from_residual-in_err-program.ensures.1 in
    rw (p.1, p.2)
    (source_unread c.args.name.now _ _ c.in_ok-text.text c.in_err-program.field-0.0 (c.in_ok-text.ensures {u = tt}).loads
    (rw c.as_slice.ensures at (c.in_err-program.ensures {u = tt}).reads))

pub returns-clause-loads : goal.returns-clause-loads
returns-clause-loads g c =
    source_loaded c.args.name.now _ _ c.in_ok-text.text c.in_ok-program.program (c.in_ok-text.ensures {u = tt}).loads
    (rw c.as_slice.ensures at (c.in_ok-program.ensures {u = tt}).reads)

pub returns-clause-is_run : goal.returns-clause-is_run
returns-clause-is_run g c = rw c.as_slice.ensures at (c.in_ok-program.ensures {u = tt}).is_run

pub returns-clause-given : goal.returns-clause-given
returns-clause-given g c = λ t. (c.in_ok-text.ensures {u = tt}).loads.given t
