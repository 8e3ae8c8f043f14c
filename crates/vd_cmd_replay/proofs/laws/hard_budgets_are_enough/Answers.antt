use Rattle.vd_cmd_replay.proofs.Budgets.{enough_by_hard}
use Rattle.vd_cmd_replay.proofs.laws.hard_budgets_are_enough.Goals as goal

pub returns : goal.returns
returns c = enough_by_hard c.firm_is_at_most_hard.ensures
