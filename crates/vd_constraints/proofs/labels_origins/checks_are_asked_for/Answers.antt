use Rattle.vd_constraints.proofs.Walk.{are_asked_for}
use Rattle.vd_constraints.proofs.labels_origins.checks_are_asked_for.Goals as goal

pub returns : goal.returns
returns c = are_asked_for
