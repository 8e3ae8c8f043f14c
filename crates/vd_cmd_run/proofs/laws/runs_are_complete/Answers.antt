use Rattle.vd_cmd_run.proofs.Holding.{complete}
use Rattle.vd_cmd_run.proofs.laws.runs_are_complete.Goals as goal

pub returns : goal.returns
returns c = complete
