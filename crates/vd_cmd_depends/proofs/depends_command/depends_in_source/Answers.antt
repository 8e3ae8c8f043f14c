use Rattle.std.proofs.Common.{true, Result, Ok, Err, subst}
use Rattle.std.proofs.lemmas.Result.{err_from_is_err_and}
use Rattle.vd_core.specs.declared.normal.NormalForm.{NormalForm}
use Rattle.vd_core.specs.declared.source.Source.{Source}
use Rattle.vd_cmd_plan.specs.Plans.{Executes}
use Rattle.vd_cmd_plan.specs.declared.answer.Answer.{Answer}
use Rattle.vd_cmd_plan.specs.declared.status.Status.{Status}
use Rattle.vd_cmd_rewrite.specs.RunPrograms.{IsRunProgram}
use Rattle.vd_cmd_plan.proofs.Front.{any_memory}
use Rattle.vd_cmd_depends.specs.Depending.{program_plan}
use Rattle.vd_cmd_depends.specs.Telling.{TellsProgram, TellsSource}
use Rattle.vd_cmd_depends.proofs.depends_command.depends_in_source.Goals as goal

pub returns-in_err-program-clause-executes : goal.returns-in_err-program-clause-executes
returns-in_err-program-clause-executes c = λ least outcomes files.
    let p = err_from_is_err_and c.from_residual.result c.from_residual.ensures.1 in
    rw (p.1, p.2) (any_memory _ files)

pub returns-clause-executes : goal.returns-clause-executes
returns-clause-executes c = λ least outcomes files.
    subst (λ (form : NormalForm). Executes true (program_plan least outcomes c.args.names.now form) files files c.depends_in_program.result)
    (c.in_ok-program.ensures.form least) (c.depends_in_program.ensures.executes least outcomes files)

told : (names : _) (source : Source) (program : NormalForm) (result : Result Answer Status) → IsRunProgram source program → TellsProgram names program result → TellsSource names source result
told names source program (Ok answer) is tells = λ e. (program, is, tells e)
told names source program (Err status) is tells = tt

pub returns-clause-tells : goal.returns-clause-tells
returns-clause-tells c = told c.args.names.now c.args.source c.in_ok-program.program c.depends_in_program.result c.in_ok-program.ensures.made c.depends_in_program.ensures.tells
