use Rattle.std.proofs.lemmas.Result.{err_from_is_err_and}
use Rattle.vd_lsp.specs.Hovers.{source_lines}
use Rattle.vd_lsp.proofs.SlotLines.{of_form}
use Rattle.vd_lsp.proofs.Outcomes.{no_memory}
use Rattle.vd_lsp.proofs.hovers.source_lines.Goals as goal

pub returns-in_err-program : goal.returns-in_err-program
returns-in_err-program c = λ least.
    let p = err_from_is_err_and c.from_residual.result c.from_residual.ensures.1 in
    rw (p.1, p.2) (no_memory (source_lines least c.args.name.now c.args.statement c.args.source))

pub returns : goal.returns
returns c = λ least. of_form least c.args.name.now c.args.statement c.in_ok-program.program _ c.program_lines.result c.in_ok-program.ensures.form (c.program_lines.ensures least)
