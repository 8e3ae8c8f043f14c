use Rattle.vd_diag_terminal.proofs.Steps.{of_text}
use Rattle.vd_diag_terminal.proofs.diag_flow.explained.steps_of_text.Goals as goal

pub returns : goal.returns
returns c = of_text c.args.number c.args.bytes.now c.in_ok-tree.tree c.steps_of_tree.result ((c.in_ok-tree.ensures {u = tt}).parsed) c.steps_of_tree.ensures
