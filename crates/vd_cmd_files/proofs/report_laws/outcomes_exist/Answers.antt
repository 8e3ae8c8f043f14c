use Rattle.vd_cmd_files.proofs.Picked.{some_outcomes}
use Rattle.vd_cmd_files.proofs.report_laws.outcomes_exist.Goals as goal

pub returns : goal.returns
returns c = some_outcomes
