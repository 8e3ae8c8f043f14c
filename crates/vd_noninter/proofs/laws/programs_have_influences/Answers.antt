use Rattle.vd_noninter.proofs.Influenced.{has_influence}
use Rattle.vd_noninter.proofs.laws.programs_have_influences.Goals as goal

pub returns : goal.returns
returns c = has_influence
