use Rattle.vd_cmd_depends.proofs.Existing.{some_influences}
use Rattle.vd_cmd_depends.proofs.influence_outcomes_exist.Goals as goal

pub returns : goal.returns
returns c = some_influences
