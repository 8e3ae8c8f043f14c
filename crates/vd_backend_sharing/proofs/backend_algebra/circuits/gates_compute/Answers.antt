use Rattle.vd_backend_sharing.proofs.Gates.{gates_compute, in_order, few}
use Rattle.vd_backend_sharing.proofs.backend_algebra.circuits.gates_compute.Goals as goal

pub returns-clause-result : goal.returns-clause-result
returns-clause-result c = gates_compute

pub returns-clause-in_order : goal.returns-clause-in_order
returns-clause-in_order c = in_order

pub returns-clause-few : goal.returns-clause-few
returns-clause-few c = few
