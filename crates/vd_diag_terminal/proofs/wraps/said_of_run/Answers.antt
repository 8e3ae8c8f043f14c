use Rattle.vd_diag_terminal.proofs.Wrapped.{of_two}
use Rattle.vd_diag_terminal.proofs.wraps.said_of_run.Goals as goal

pub returns : goal.returns
returns g c = of_two c.args.coloured _ _ c.told_of_run.result c.args.source.now c.args.inputs.now _ c.fetch-came.result c.fetch-given.result c.fetch-came.ensures c.fetch-given.ensures c.told_of_run.ensures
