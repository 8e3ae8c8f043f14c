use Rattle.vd_distributed.proofs.Stored.{stored_hosts_are_served}
use Rattle.vd_distributed.proofs.distributed_progress.stored_hosts_are_served.Goals as goal

pub returns : goal.returns
returns c = stored_hosts_are_served
