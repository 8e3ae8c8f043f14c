use Rattle.vd_backend_laws.proofs.SuiteLaws.{suite_laws}
use Rattle.vd_backend_laws.proofs.suite_meets_its_laws.Goals as goal

pub returns : goal.returns
returns c = suite_laws
