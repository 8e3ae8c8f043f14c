use Rattle.vd_engine.proofs.Enough.{enough}
use Rattle.vd_engine.proofs.laws.enough_ends_well.Goals as goal

pub returns : goal.returns
returns c = enough
