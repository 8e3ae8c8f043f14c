use Rattle.vd_integrity_runs.proofs.Copies.{copies_stay_right}
use Rattle.vd_integrity_runs.proofs.integrity_backends.laws.copies_stay_right.Goals as goal

pub returns : goal.returns
returns c = copies_stay_right
