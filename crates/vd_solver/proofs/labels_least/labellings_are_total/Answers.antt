use Rattle.vd_solver.proofs.Somehow.{labelled_somehow}
use Rattle.vd_solver.proofs.labels_least.labellings_are_total.Goals as goal

pub returns : goal.returns
returns c = labelled_somehow
