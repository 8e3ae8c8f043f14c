use Rattle.vd_cmd_host.proofs.Serving.{served}
use Rattle.vd_cmd_host.proofs.cmd_host_laws.served_hosts_end_well.Goals as goal

pub returns : goal.returns
returns c = served
