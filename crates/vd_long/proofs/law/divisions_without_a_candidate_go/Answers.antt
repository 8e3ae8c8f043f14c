use Rattle.vd_long.proofs.LongGone.{divisions_go}
use Rattle.vd_long.proofs.law.divisions_without_a_candidate_go.Goals as goal

pub returns : goal.returns
returns c = divisions_go
