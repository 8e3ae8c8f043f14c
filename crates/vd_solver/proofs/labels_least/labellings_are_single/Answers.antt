use Rattle.vd_solver.proofs.Once.{labelled_once}
use Rattle.vd_solver.proofs.labels_least.labellings_are_single.Goals as goal

pub returns : goal.returns
returns c = labelled_once
