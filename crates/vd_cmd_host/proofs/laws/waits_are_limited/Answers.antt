use Rattle.vd_cmd_host.proofs.Runs.{stay_limited}
use Rattle.vd_cmd_host.proofs.laws.waits_are_limited.Goals as goal

pub returns : goal.returns
returns c = stay_limited
