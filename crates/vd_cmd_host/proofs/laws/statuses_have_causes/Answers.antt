use Rattle.vd_cmd_host.proofs.Runs.{have_causes}
use Rattle.vd_cmd_host.proofs.laws.statuses_have_causes.Goals as goal

pub returns : goal.returns
returns c = have_causes
