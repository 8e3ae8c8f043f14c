use Rattle.vd_reorder.proofs.Tidy.{tidy_too}
use Rattle.vd_reorder.proofs.ChoreographyCommutingTurned.{tells_the_same}
use Rattle.vd_reorder.proofs.choreography_commuting.turned_code_tells_the_same.Goals as goal

pub returns-clause-same : goal.returns-clause-same
returns-clause-same c = tells_the_same

pub returns-clause-tidy : goal.returns-clause-tidy
returns-clause-tidy c = tidy_too
