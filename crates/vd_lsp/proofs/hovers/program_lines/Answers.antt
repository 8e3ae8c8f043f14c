use Rattle.std.proofs.Common.{Ok}
use Rattle.std.proofs.lemmas.Result.{err_from_is_err_and}
use Rattle.vd_cmd_labels.specs.Labelling.{labels_of}
use Rattle.vd_lsp.specs.Hovers.{label_lines, program_lines}
use Rattle.vd_lsp.proofs.Outcomes.{no_memory, stopped}
use Rattle.vd_lsp.proofs.hovers.program_lines.Goals as goal

pub returns-in_err-labels : goal.returns-in_err-labels
returns-in_err-labels c = λ least.
    let p = err_from_is_err_and c.from_residual.result c.from_residual.ensures.1 in
    rw (p.1, p.2) (stopped (labels_of least c.args.program.now) (λ labels. Ok (label_lines c.args.name.now c.args.statement c.args.program.now labels)) c.in_err-labels.field-0.0
    ((c.in_err-labels.ensures {u = tt}).checks least))

pub returns-in_err-lines : goal.returns-in_err-lines
returns-in_err-lines c = λ least.
    let p = err_from_is_err_and c.from_residual-in_err-lines.result c.from_residual-in_err-lines.ensures.1 in
    rw (p.1, p.2) (no_memory (program_lines least c.args.name.now c.args.statement c.args.program.now))
