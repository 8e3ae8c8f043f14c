use Rattle.std.proofs.lemmas.Result.{err_from_is_err_and}
use Rattle.vd_cmd_labels.specs.Sources.{resolved_of}
use Rattle.vd_lsp.specs.Hovers.{source_lines}
use Rattle.vd_lsp.proofs.Outcomes.{made, stopped}
use Rattle.vd_lsp.proofs.hovers.tree_lines.Goals as goal

pub returns-in_err-source : goal.returns-in_err-source
returns-in_err-source c = λ least.
    let p = err_from_is_err_and c.from_residual.result c.from_residual.ensures.1 in
    rw (p.1, p.2) (stopped (resolved_of c.args.tree) (source_lines least c.args.name.now c.args.statement) c.in_err-source.field-0.0 (c.in_err-source.ensures {u = tt}))

pub returns : goal.returns
returns c = λ least.
    made (resolved_of c.args.tree) (source_lines least c.args.name.now c.args.statement) c.in_ok-source.source c.source_lines.result (c.in_ok-source.ensures {u = tt}) (c.source_lines.ensures least)
