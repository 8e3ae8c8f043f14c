use Rattle.vd_diag_source.proofs.Exactness.{goes_on_exactly}
use Rattle.vd_diag_source.proofs.laws.goes_on_is_exact.Goals as goal

pub returns : goal.returns
returns c = goes_on_exactly
