use Rattle.std.proofs.Common.{length}
use Rattle.vd_base.specs.HostSets.{host}
use Rattle.vd_base.specs.declared.protocols.Proto.TheVariants.{Local}
use Rattle.vd_space.proofs.Listed.{has_hosts_in}
use Rattle.vd_space.proofs.validity.is_candidate_at.Goals as goal

pub authority-requires-clause-declared : goal.authority-requires-clause-declared
authority-requires-clause-declared c = has_hosts_in c.args.list.now (length c.args.problem.now.hosts) c.args.place (Local (host 0)) c.requires.list.all c.if-place-list.false
