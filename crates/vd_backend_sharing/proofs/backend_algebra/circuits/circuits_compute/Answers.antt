use Rattle.vd_backend_sharing.proofs.Computing.{computes}
use Rattle.vd_backend_sharing.proofs.backend_algebra.circuits.circuits_compute.Goals as goal

pub returns : goal.returns
returns c = computes
