use Rattle.vd_backends.proofs.Served.{programs_can_be_split}
use Rattle.vd_backends.proofs.laws.programs_can_be_split.Goals as goal

pub returns : goal.returns
returns c = programs_can_be_split
