use Rattle.std.proofs.Common.{[], Ok, Err}
use Rattle.std.proofs.lemmas.Result.{err_from_is_err_and}
use Rattle.vd_cmd_plan.specs.Plans.{answer_then, ended}
use Rattle.vd_cmd_labels.specs.Labelling.{labels_of, labels_text}
use Rattle.vd_cmd_plan.proofs.Front.{answers, check_step}
use Rattle.vd_cmd_labels.proofs.labels_command.label_program.Goals as goal

pub returns-in_err-labels : goal.returns-in_err-labels
returns-in_err-labels c = λ least files.
    let p = err_from_is_err_and c.from_residual.result c.from_residual.ensures.1 in
    rw (p.1, p.2)
    (check_step (labels_of least c.args.program.now) files (Err c.in_err-labels.field-0.0) ((c.in_err-labels.ensures {u = tt}).checks least) (λ labels. answer_then (ended [] (labels_text c.args.program.now labels))))

pub returns : goal.returns
returns c = λ least files.
    check_step (labels_of least c.args.program.now) files (Ok c.in_ok-labels.labels) ((c.in_ok-labels.ensures {u = tt}).checks least) (λ labels. answer_then (ended [] (labels_text c.args.program.now labels))) files _ (answers _ files _ c.labels_answer.ensures)
