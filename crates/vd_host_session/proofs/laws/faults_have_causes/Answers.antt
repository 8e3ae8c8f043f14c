use Rattle.vd_host_session.proofs.Causes.{causes}
use Rattle.vd_host_session.proofs.laws.faults_have_causes.Goals as goal

pub returns : goal.returns
returns c = causes
