use Rattle.std.proofs.Common.{Ok, Err}
use Rattle.std.proofs.lemmas.Result.{err_from_is_err_and}
use Rattle.vd_cmd_plan.proofs.Front.{check_step}
use Rattle.vd_cmd_choose.specs.Certifying.{confirmed_plan}
use Rattle.vd_cmd_choose.specs.Problems.{problem_for}
use Rattle.vd_cmd_choose.proofs.certify_command.certify_program.Goals as goal

pub returns-in_err-space : goal.returns-in_err-space
returns-in_err-space c = λ least files.
    let p = err_from_is_err_and c.from_residual.result c.from_residual.ensures.1 in
    rw (p.1, p.2) (check_step (problem_for least c.args.program.now) files (Err c.in_err-space.field-0.0) ((c.in_err-space.ensures {u = tt}).checks least) (confirmed_plan c.args.certificate.now))

pub returns : goal.returns
returns c = λ least files.
    check_step (problem_for least c.args.program.now) files (Ok c.in_ok-space.space) ((c.in_ok-space.ensures {u = tt}).checks least) (confirmed_plan c.args.certificate.now) files _ (c.certify_space.ensures files)
