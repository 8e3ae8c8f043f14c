use Rattle.vd_integrity_runs.proofs.Passing.{opened_has_the_digest}
use Rattle.vd_integrity_runs.proofs.integrity_checks.laws.openings_bind.Goals as goal

pub returns : goal.returns
returns c = opened_has_the_digest
