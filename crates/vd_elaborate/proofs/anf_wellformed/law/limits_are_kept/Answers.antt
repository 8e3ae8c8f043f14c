use Rattle.vd_elaborate.proofs.WellMade.{within_limits}
use Rattle.vd_elaborate.proofs.anf_wellformed.law.limits_are_kept.Goals as goal

pub returns : goal.returns
returns c = within_limits
