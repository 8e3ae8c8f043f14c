use Rattle.vd_flow.proofs.Forcing.{forced}
use Rattle.vd_flow.proofs.laws.ways_make_checks_fail.Goals as goal

pub returns : goal.returns
returns c = forced
