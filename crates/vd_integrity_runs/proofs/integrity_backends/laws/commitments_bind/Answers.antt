use Rattle.vd_integrity_runs.proofs.Commitments.{commitments_bind}
use Rattle.vd_integrity_runs.proofs.integrity_backends.laws.commitments_bind.Goals as goal

pub returns : goal.returns
returns c = commitments_bind
