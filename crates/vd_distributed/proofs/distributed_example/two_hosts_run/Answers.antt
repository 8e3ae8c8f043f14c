use Rattle.vd_distributed.proofs.Whole.{two_hosts_run}
use Rattle.vd_distributed.proofs.distributed_example.two_hosts_run.Goals as goal

pub returns : goal.returns
returns c = two_hosts_run
