use Rattle.std.proofs.lemmas.Result.{err_from_is_err_and}
use Rattle.vd_cmd_labels.specs.Labelling.{labelled_plan}
use Rattle.vd_cmd_labels.proofs.labels_command.labels.Goals as goal

pub returns-in_err-resolved : goal.returns-in_err-resolved
returns-in_err-resolved g c = λ texts least.
    let p = err_from_is_err_and c.from_residual.result c.from_residual.ensures.1 in
    rw (p.1, p.2) ((c.in_err-resolved.ensures {u = tt}).loads texts (labelled_plan least))

pub returns : goal.returns
returns g c = λ texts least. (c.in_ok-resolved.ensures {u = tt}).loads texts (labelled_plan least) _ _ (c.label_source.ensures least _)
