use Rattle.vd_elaborate.proofs.Declared.{principals_declared}
use Rattle.vd_elaborate.proofs.anf_wellformed.law.principals_are_declared.Goals as goal

pub returns : goal.returns
returns c = principals_declared
