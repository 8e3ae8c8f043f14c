use Rattle.vd_diag_terminal.proofs.Steps.{of_tree}
use Rattle.vd_diag_terminal.proofs.diag_flow.explained.steps_of_tree.Goals as goal

pub returns : goal.returns
returns c = of_tree c.args.number c.args.tree c.in_ok-source.source c.in_ok-steps.steps ((c.in_ok-source.ensures {u = tt}).ok) (c.in_ok-steps.ensures {u = tt})
