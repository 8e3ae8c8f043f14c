use Rattle.vd_distributed.proofs.DistributedReorderedDriven.{early_tell}
use Rattle.vd_distributed.proofs.distributed_reordered.early_hosts_tell_the_same.Goals as goal

pub returns : goal.returns
returns c = early_tell
