use Rattle.vd_cmd_depends.proofs.Existing.{some_dependences}
use Rattle.vd_cmd_depends.proofs.dependence_outcomes_exist.Goals as goal

pub returns : goal.returns
returns c = some_dependences
