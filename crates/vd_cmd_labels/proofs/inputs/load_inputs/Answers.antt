use Rattle.std.proofs.lemmas.Result.{err_from_is_err_and}
use Rattle.vd_cmd_labels.proofs.HeldTexts.{inputs_found}
use Rattle.vd_cmd_labels.proofs.Reading.{inputs_err, inputs_ok}
use Rattle.vd_cmd_labels.proofs.inputs.load_inputs.Goals as goal

pub returns-in_err-bytes-clause-loads : goal.returns-in_err-bytes-clause-loads
returns-in_err-bytes-clause-loads g c = λ texts.
    let p = err_from_is_err_and c.from_residual.result c.from_residual.ensures.1 in
    rw (p.1, p.2) (inputs_err texts c.args.name.now c.args.hosts.now _ _ _ (c.in_err-bytes.ensures {u = tt}).loads)

pub returns-clause-loads : goal.returns-clause-loads
returns-clause-loads g c = λ texts. inputs_ok texts c.args.name.now c.args.hosts.now c.in_ok-bytes.bytes c.as_slice.result.now _ _ _ (c.in_ok-bytes.ensures {u = tt}).loads c.as_slice.ensures (c.inputs_of.ensures.words texts)

pub returns-clause-given : goal.returns-clause-given
returns-clause-given g c = inputs_found c.args.name.now c.args.hosts.now c.in_ok-bytes.bytes c.as_slice.result.now _ _ _ (c.in_ok-bytes.ensures {u = tt}).loads c.as_slice.ensures c.inputs_of.ensures.given
