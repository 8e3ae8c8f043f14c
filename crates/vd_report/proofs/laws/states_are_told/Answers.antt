use Rattle.vd_report.proofs.StatesTold.{states_told}
use Rattle.vd_report.proofs.laws.states_are_told.Goals as goal

pub returns : goal.returns
returns c = states_told
