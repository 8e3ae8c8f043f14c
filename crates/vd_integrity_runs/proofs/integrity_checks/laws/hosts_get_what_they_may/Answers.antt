use Rattle.vd_integrity_runs.proofs.IntegrityChecksSteps.{answers_may_be}
use Rattle.vd_integrity_runs.proofs.integrity_checks.laws.hosts_get_what_they_may.Goals as goal

pub returns : goal.returns
returns c = λ given state. answers_may_be given state.cursors _
