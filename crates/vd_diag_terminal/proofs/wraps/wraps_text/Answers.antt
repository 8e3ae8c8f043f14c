use Rattle.vd_diag_terminal.proofs.Wrapped.{of_wraps}
use Rattle.vd_diag_terminal.proofs.wraps.wraps_text.Goals as goal

pub returns : goal.returns
returns c = of_wraps c.args.coloured c.args.name.now c.args.bytes.now c.args.words.now c.in_ok-wraps.wraps c.wrap_lines.result (c.in_ok-wraps.ensures {u = tt}) (rw c.as_slice.ensures at c.wrap_lines.ensures)
