use Rattle.vd_cmd_needs.proofs.ReadBack.{kinds_are_told}
use Rattle.vd_cmd_needs.proofs.laws.kinds_are_told.Goals as goal

pub returns : goal.returns
returns c = kinds_are_told
