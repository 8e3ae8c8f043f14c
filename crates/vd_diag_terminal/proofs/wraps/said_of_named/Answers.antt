use Rattle.vd_diag_terminal.proofs.Wrapped.{of_inputs, of_no_inputs}
use Rattle.vd_diag_terminal.proofs.wraps.said_of_named.Goals as goal

pub returns-in-Some : goal.returns-in-Some
returns-in-Some g c = of_inputs c.args.coloured _ _ c.said_of_run.result c.args.words.now c.args.source.now c.in-Some.inputs.now c.in-Some.ensures c.said_of_run.ensures

pub returns-in-None : goal.returns-in-None
returns-in-None g c = of_no_inputs c.args.coloured c.args.words.now _ c.new.result c.new.ensures c.args.source.now c.in-None.ensures
