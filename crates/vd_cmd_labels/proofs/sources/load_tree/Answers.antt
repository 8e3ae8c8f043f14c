use Rattle.std.proofs.lemmas.Result.{err_from_is_err_and}
use Rattle.vd_cmd_labels.proofs.HeldTexts.{tree_found}
use Rattle.vd_cmd_labels.proofs.Reading.{tree_err, tree_ok}
use Rattle.vd_cmd_labels.proofs.sources.load_tree.Goals as goal

pub returns-in_err-bytes-clause-loads : goal.returns-in_err-bytes-clause-loads
returns-in_err-bytes-clause-loads g c = λ texts.
    let p = err_from_is_err_and c.from_residual.result c.from_residual.ensures.1 in
    rw (p.1, p.2) (tree_err texts c.args.name.now _ _ _ (c.in_err-bytes.ensures {u = tt}).loads)

pub returns-clause-loads : goal.returns-clause-loads
returns-clause-loads g c = λ texts. tree_ok texts c.args.name.now c.in_ok-bytes.bytes c.as_slice.result.now _ _ _ (c.in_ok-bytes.ensures {u = tt}).loads c.as_slice.ensures (c.read_source.ensures.reads texts c.args.name.now)

pub returns-clause-given : goal.returns-clause-given
returns-clause-given g c = tree_found c.args.name.now c.in_ok-bytes.bytes c.as_slice.result.now _ _ _ (c.in_ok-bytes.ensures {u = tt}).loads c.as_slice.ensures c.read_source.ensures.parsed
