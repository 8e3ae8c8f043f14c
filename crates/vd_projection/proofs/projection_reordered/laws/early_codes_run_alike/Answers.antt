use Rattle.vd_projection.proofs.Early.{runs_alike}
use Rattle.vd_projection.proofs.projection_reordered.laws.early_codes_run_alike.Goals as goal

pub returns : goal.returns
returns c = runs_alike
