use Rattle.vd_distributed.proofs.Running.{running_hosts_end}
use Rattle.vd_distributed.proofs.distributed_programs.running_hosts_end.Goals as goal

pub returns : goal.returns
returns c = running_hosts_end
