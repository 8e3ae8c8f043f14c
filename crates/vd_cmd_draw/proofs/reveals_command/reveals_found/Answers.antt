use Rattle.std.proofs.lemmas.Result.{err_from_is_err_and}
use Rattle.vd_cmd_choice.specs.Choice.{chosen_of}
use Rattle.vd_cmd_draw.proofs.Asked.{asked_found, asked_refused}
use Rattle.vd_cmd_draw.proofs.reveals_command.reveals_found.Goals as goal

pub returns-in_err-hosts : goal.returns-in_err-hosts
returns-in_err-hosts c = λ files.
    let p = err_from_is_err_and c.from_residual.result c.from_residual.ensures.1 in
    rw (p.1, p.2) (asked_refused c.args.words.now c.args.found.text (chosen_of c.args.found.choice) c.in_err-hosts.field-0.0 (rw c.form.ensures.same at (c.in_err-hosts.ensures {u = tt})) files)

pub returns : goal.returns
returns c = λ files.
    asked_found c.args.words.now c.args.found.text (chosen_of c.args.found.choice) c.in_ok-hosts.hosts c.reveals_choice.result (rw c.form.ensures.same at (c.in_ok-hosts.ensures {u = tt})) (rw c.as_slice.ensures at c.reveals_choice.ensures) files
