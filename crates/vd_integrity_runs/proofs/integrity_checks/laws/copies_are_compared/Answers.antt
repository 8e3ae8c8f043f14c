use Rattle.vd_integrity_runs.proofs.Passing.{compared_are_equal}
use Rattle.vd_integrity_runs.proofs.integrity_checks.laws.copies_are_compared.Goals as goal

pub returns : goal.returns
returns c = compared_are_equal
