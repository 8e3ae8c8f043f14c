use Rattle.vd_top.proofs.Words.{some_outcomes}
use Rattle.vd_top.proofs.entry.outcomes_exist.Goals as goal

pub returns : goal.returns
returns c = some_outcomes
