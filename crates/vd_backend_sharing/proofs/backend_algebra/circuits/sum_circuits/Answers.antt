use Rattle.vd_backend_sharing.proofs.Computing.{add_computes, sub_computes}
use Rattle.vd_backend_sharing.proofs.backend_algebra.circuits.sum_circuits.Goals as goal

pub returns-clause-add : goal.returns-clause-add
returns-clause-add c = add_computes

pub returns-clause-sub : goal.returns-clause-sub
returns-clause-sub c = sub_computes
