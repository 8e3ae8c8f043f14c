use Rattle.std.proofs.lemmas.Result.{err_from_is_err_and}
use Rattle.vd_lsp.specs.Outcomes.{source_outcome}
use Rattle.vd_lsp.proofs.Outcomes.{no_memory, of_form}
use Rattle.vd_lsp.proofs.checking.label_source.Goals as goal

pub returns-in_err-program : goal.returns-in_err-program
returns-in_err-program c = λ least.
    let p = err_from_is_err_and c.from_residual.result c.from_residual.ensures.1 in
    rw (p.1, p.2) (no_memory (source_outcome least c.args.source))

pub returns : goal.returns
returns c = λ least. of_form least c.args.source c.in_ok-program.program _ c.least_labels.result c.in_ok-program.ensures.form (c.least_labels.ensures.checks least)
