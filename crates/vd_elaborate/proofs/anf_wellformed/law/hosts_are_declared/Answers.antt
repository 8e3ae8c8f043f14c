use Rattle.vd_elaborate.proofs.Declared.{hosts_declared}
use Rattle.vd_elaborate.proofs.anf_wellformed.law.hosts_are_declared.Goals as goal

pub returns : goal.returns
returns c = hosts_declared
