use Rattle.vd_cmd_run.proofs.Holding.{caused}
use Rattle.vd_cmd_run.proofs.laws.statuses_have_causes.Goals as goal

pub returns : goal.returns
returns c = caused
