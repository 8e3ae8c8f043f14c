use Rattle.vd_integrity_runs.proofs.Steps.{keepers_run_together}
use Rattle.vd_integrity_runs.proofs.integrity_backends.laws.keepers_run_together.Goals as goal

pub returns : goal.returns
returns c = keepers_run_together
