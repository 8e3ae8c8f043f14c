use Rattle.vd_distributed.proofs.Told.{waiting_ended}
use Rattle.vd_distributed.proofs.distributed_hosts.waiting_hosts_have_ended.Goals as goal

pub returns : goal.returns
returns c = waiting_ended
