use Rattle.vd_cmd_files.proofs.Picked.{outcomes_are_single}
use Rattle.vd_cmd_files.proofs.report_laws.outcomes_are_single.Goals as goal

pub returns : goal.returns
returns c = outcomes_are_single
