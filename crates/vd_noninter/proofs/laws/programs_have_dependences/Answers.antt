use Rattle.vd_noninter.proofs.Answered.{has_dependence}
use Rattle.vd_noninter.proofs.laws.programs_have_dependences.Goals as goal

pub returns : goal.returns
returns c = has_dependence
