use Rattle.vd_distributed.proofs.Told.{told}
use Rattle.vd_distributed.proofs.distributed_hosts.driven_hosts_are_told.Goals as goal

pub returns : goal.returns
returns c = told
