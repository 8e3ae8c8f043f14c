use Rattle.vd_integrity_runs.proofs.Passing.{shown_are_equal}
use Rattle.vd_integrity_runs.proofs.integrity_checks.laws.shown_copies_are_equal.Goals as goal

pub returns : goal.returns
returns c = shown_are_equal
