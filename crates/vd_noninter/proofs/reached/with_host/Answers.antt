use Rattle.vd_noninter.proofs.Hosts.{host_more}
use Rattle.vd_noninter.proofs.reached.with_host.Goals as goal

pub returns : goal.returns
returns c = λ k. host_more c.args.set.bits c.args.number k c.requires
