use Rattle.vd_cmd_data.proofs.RunsRead.{runs_read}
use Rattle.vd_cmd_data.proofs.report_command.runs_are_read.Goals as goal

pub returns : goal.returns
returns c = runs_read
