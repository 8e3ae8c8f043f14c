use Rattle.vd_cmd_host.proofs.Runs.{come_back}
use Rattle.vd_cmd_host.proofs.laws.links_come_back.Goals as goal

pub returns : goal.returns
returns c = come_back
