use Rattle.vd_host_session.proofs.Limits.{limit_stays}
use Rattle.vd_host_session.proofs.laws.limits_stay.Goals as goal

pub returns : goal.returns
returns c = limit_stays
