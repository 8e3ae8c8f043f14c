use Rattle.vd_integrity_runs.proofs.Shares.{shares_are_kept}
use Rattle.vd_integrity_runs.proofs.integrity_backends.laws.shares_are_kept.Goals as goal

pub returns : goal.returns
returns c = shares_are_kept
