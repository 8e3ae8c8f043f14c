use Rattle.vd_integrity_runs.proofs.Theorem.{fronts_explained}
use Rattle.vd_integrity_runs.proofs.laws.stopped_runs_are_explained.Goals as goal

pub returns : goal.returns
returns c = fronts_explained
