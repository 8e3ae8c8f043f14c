use Rattle.vd_distributed.proofs.Joined.{linked_hosts_tell_the_same}
use Rattle.vd_distributed.proofs.distributed_hosts.linked_hosts_tell_the_same.Goals as goal

pub returns : goal.returns
returns c = linked_hosts_tell_the_same
