use Rattle.vd_backend_sharing.proofs.Computing.{mux_computes, min_computes, max_computes}
use Rattle.vd_backend_sharing.proofs.backend_algebra.circuits.choice_circuits.Goals as goal

pub returns-clause-mux : goal.returns-clause-mux
returns-clause-mux c = λ x y z hx hy hz. mux_computes x y z hy hz

pub returns-clause-min : goal.returns-clause-min
returns-clause-min c = min_computes

pub returns-clause-max : goal.returns-clause-max
returns-clause-max c = max_computes
