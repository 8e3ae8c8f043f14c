use Rattle.std.proofs.Common.{[], Ok, Err}
use Rattle.std.proofs.lemmas.Result.{err_from_is_err_and}
use Rattle.vd_cmd_plan.specs.Plans.{answer_then, ended}
use Rattle.vd_cmd_plan.proofs.Front.{answers, check_step}
use Rattle.vd_cmd_choose.specs.Certifying.{proved_of, proved_text}
use Rattle.vd_cmd_choose.proofs.certify_command.certify_space.Goals as goal

pub returns-in_err-proved : goal.returns-in_err-proved
returns-in_err-proved c = λ files.
    let p = err_from_is_err_and c.from_residual.result c.from_residual.ensures.1 in
    rw (p.1, p.2)
    (check_step (proved_of c.args.space.now c.args.certificate.now) files (Err c.in_err-proved.field-0.0) (c.in_err-proved.ensures {u = tt}) (λ proved. answer_then (ended [] (proved_text proved))))

pub returns : goal.returns
returns c = λ files.
    check_step (proved_of c.args.space.now c.args.certificate.now) files (Ok c.in_ok-proved.proved) (c.in_ok-proved.ensures {u = tt}) (λ proved. answer_then (ended [] (proved_text proved))) files _ (answers _ files _ c.shown_answer.ensures)
