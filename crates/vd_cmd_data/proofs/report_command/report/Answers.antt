use Rattle.std.proofs.lemmas.Result.{err_from_is_err_and}
use Rattle.vd_cmd_data.specs.Reporting.{program_plan}
use Rattle.vd_cmd_data.proofs.report_command.report.Goals as goal

pub returns-in_err-loaded : goal.returns-in_err-loaded
returns-in_err-loaded g c = λ texts least.
    let p = err_from_is_err_and c.from_residual.result c.from_residual.ensures.1 in
    rw (p.1, p.2) ((rw c.as_str.ensures at (c.in_err-loaded.ensures {u = tt}).loads) texts least (program_plan c.args.words.now))

pub returns : goal.returns
returns g c = λ texts least. (rw c.as_str.ensures at (c.in_ok-loaded.ensures {u = tt}).loads) texts least (program_plan c.args.words.now) _ _ c.report_program.ensures
