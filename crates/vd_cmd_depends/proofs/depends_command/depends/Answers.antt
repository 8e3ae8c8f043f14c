use Rattle.std.proofs.lemmas.Result.{err_from_is_err_and}
use Rattle.vd_elaborate.specs.Normal.{normal_form}
use Rattle.vd_cmd_rewrite.specs.RunPrograms.{run_form}
use Rattle.vd_cmd_depends.specs.Depending.{program_plan}
use Rattle.vd_cmd_depends.proofs.Told.{dependence_told}
use Rattle.vd_cmd_depends.proofs.depends_command.depends.Goals as goal

pub returns-in_err-resolved-clause-executes : goal.returns-in_err-resolved-clause-executes
returns-in_err-resolved-clause-executes g c = λ texts least outcomes.
    let p = err_from_is_err_and c.from_residual.result c.from_residual.ensures.1 in
    rw (p.1, p.2) ((c.in_err-resolved.ensures {u = tt}).loads texts (λ tree. program_plan least outcomes c.args.names.now (run_form least (normal_form tree))))

pub returns-clause-executes : goal.returns-clause-executes
returns-clause-executes g c = λ texts least outcomes.
    rw (← c.as_slice.ensures)
    ((c.in_ok-resolved.ensures {u = tt}).loads texts (λ tree. program_plan least outcomes c.as_slice.result.now (run_form least (normal_form tree))) _ _ (c.depends_in_source.ensures.executes least outcomes _))

pub returns-clause-tells : goal.returns-clause-tells
returns-clause-tells g c =
    rw (← c.as_slice.ensures)
    (dependence_told c.args.source.now c.as_slice.result.now (g.F.Files.view c.args.files.now) c.in_ok-resolved.resolved _ (c.in_ok-resolved.ensures {u = tt}).given c.depends_in_source.ensures.tells)
