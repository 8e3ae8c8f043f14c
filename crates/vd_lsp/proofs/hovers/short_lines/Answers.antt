use Rattle.std.proofs.lemmas.Result.{err_from_is_err_and}
use Rattle.vd_cmd_labels.specs.Sources.{source_of}
use Rattle.vd_lsp.specs.Hovers.{tree_lines}
use Rattle.vd_lsp.proofs.Outcomes.{made, stopped}
use Rattle.vd_lsp.proofs.hovers.short_lines.Goals as goal

pub returns-in_err-tree : goal.returns-in_err-tree
returns-in_err-tree c = λ texts least uri.
    let p = err_from_is_err_and c.from_residual.result c.from_residual.ensures.1 in
    rw (p.1, p.2) (stopped (source_of texts uri c.args.text.now) (tree_lines least c.args.name.now c.args.statement) c.in_err-tree.field-0.0 ((c.in_err-tree.ensures {u = tt}).reads texts uri))

pub returns : goal.returns
returns c = λ texts least uri.
    made (source_of texts uri c.args.text.now) (tree_lines least c.args.name.now c.args.statement) c.in_ok-tree.tree c.tree_lines.result ((c.in_ok-tree.ensures {u = tt}).reads texts uri) (c.tree_lines.ensures least)
