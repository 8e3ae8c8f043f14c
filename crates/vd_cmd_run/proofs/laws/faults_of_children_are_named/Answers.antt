use Rattle.vd_cmd_run.proofs.Causes.{children_named}
use Rattle.vd_cmd_run.proofs.laws.faults_of_children_are_named.Goals as goal

pub returns : goal.returns
returns c = children_named
