use Rattle.vd_integrity_runs.proofs.Running.{steps_hear}
use Rattle.vd_integrity_runs.proofs.integrity_checks.laws.steps_hear.Goals as goal

pub returns : goal.returns
returns c = steps_hear
