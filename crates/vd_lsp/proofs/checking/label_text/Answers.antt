use Rattle.std.proofs.lemmas.Result.{err_from_is_err_and}
use Rattle.vd_cmd_labels.specs.Sources.{source_of}
use Rattle.vd_lsp.specs.Outcomes.{tree_outcome}
use Rattle.vd_lsp.proofs.Outcomes.{made, stopped}
use Rattle.vd_lsp.proofs.checking.label_text.Goals as goal

pub returns-in_err-tree : goal.returns-in_err-tree
returns-in_err-tree c = λ texts least name.
    let p = err_from_is_err_and c.from_residual.result c.from_residual.ensures.1 in
    rw (p.1, p.2) (stopped (source_of texts name c.args.text.now) (tree_outcome least) c.in_err-tree.field-0.0 ((c.in_err-tree.ensures {u = tt}).reads texts name))

pub returns : goal.returns
returns c = λ texts least name.
    made (source_of texts name c.args.text.now) (tree_outcome least) c.in_ok-tree.tree c.label_tree.result ((c.in_ok-tree.ensures {u = tt}).reads texts name) (c.label_tree.ensures least)
