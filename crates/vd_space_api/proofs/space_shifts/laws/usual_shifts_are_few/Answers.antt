use Rattle.vd_space_api.proofs.Few.{usual_few}
use Rattle.vd_space_api.proofs.space_shifts.laws.usual_shifts_are_few.Goals as goal

pub returns : goal.returns
returns c = usual_few
