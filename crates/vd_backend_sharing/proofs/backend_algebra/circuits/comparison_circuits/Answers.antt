use Rattle.vd_backend_sharing.proofs.Computing.{lt_computes, le_computes, eq_computes, ne_computes}
use Rattle.vd_backend_sharing.proofs.backend_algebra.circuits.comparison_circuits.Goals as goal

pub returns-clause-lt : goal.returns-clause-lt
returns-clause-lt c = lt_computes

pub returns-clause-le : goal.returns-clause-le
returns-clause-le c = le_computes

pub returns-clause-eq : goal.returns-clause-eq
returns-clause-eq c = eq_computes

pub returns-clause-ne : goal.returns-clause-ne
returns-clause-ne c = ne_computes
