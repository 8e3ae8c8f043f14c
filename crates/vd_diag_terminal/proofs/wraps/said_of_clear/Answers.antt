use Rattle.vd_diag_terminal.proofs.Wrapped.{of_source, of_no_source}
use Rattle.vd_diag_terminal.proofs.wraps.said_of_clear.Goals as goal

pub returns-in-Some : goal.returns-in-Some
returns-in-Some g c = of_source c.args.coloured _ _ c.said_of_named.result c.args.words.now c.in-Some.source.now c.in-Some.ensures c.said_of_named.ensures

pub returns-in-None : goal.returns-in-None
returns-in-None g c = of_no_source c.args.coloured c.args.words.now _ c.new.result c.new.ensures c.in-None.ensures
