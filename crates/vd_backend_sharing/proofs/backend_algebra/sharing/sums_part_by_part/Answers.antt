use Rattle.vd_backend_sharing.proofs.BackendAlgebraParts.{scale_each}
use Rattle.vd_backend_sharing.proofs.backend_algebra.sharing.sums_part_by_part.Goals as goal

pub returns-clause-scale : goal.returns-clause-scale
returns-clause-scale c = scale_each
