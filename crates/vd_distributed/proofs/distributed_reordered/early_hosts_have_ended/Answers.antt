use Rattle.vd_distributed.proofs.DistributedReorderedDriven.{early_ended}
use Rattle.vd_distributed.proofs.distributed_reordered.early_hosts_have_ended.Goals as goal

pub returns : goal.returns
returns c = early_ended
