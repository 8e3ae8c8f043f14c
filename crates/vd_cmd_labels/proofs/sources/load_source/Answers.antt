use Rattle.std.proofs.lemmas.Result.{err_from_is_err_and}
use Rattle.vd_cmd_labels.proofs.HeldTexts.{source_found}
use Rattle.vd_cmd_labels.proofs.Reading.{source_err, source_ok}
use Rattle.vd_cmd_labels.proofs.sources.load_source.Goals as goal

pub returns-in_err-tree-clause-loads : goal.returns-in_err-tree-clause-loads
returns-in_err-tree-clause-loads g c = λ texts.
    let p = err_from_is_err_and c.from_residual.result c.from_residual.ensures.1 in
    rw (p.1, p.2) (source_err texts c.args.name.now _ _ _ ((c.in_err-tree.ensures {u = tt}).loads texts))

pub returns-clause-loads : goal.returns-clause-loads
returns-clause-loads g c = λ texts. source_ok texts c.args.name.now c.in_ok-tree.tree _ _ _ ((c.in_ok-tree.ensures {u = tt}).loads texts) c.resolve_source.ensures

pub returns-clause-given : goal.returns-clause-given
returns-clause-given g c = source_found c.args.name.now (g.F.Files.view c.args.files.now) c.in_ok-tree.tree _ (c.in_ok-tree.ensures {u = tt}).given c.resolve_source.ensures
