use Rattle.vd_diag_terminal.proofs.Steps.{of_source}
use Rattle.vd_diag_terminal.proofs.diag_flow.explained.steps_of_source.Goals as goal

pub returns : goal.returns
returns c = of_source c.args.number c.in_ok-program.program c.args.source c.steps_of_program.result c.in_ok-program.ensures.form c.steps_of_program.ensures
