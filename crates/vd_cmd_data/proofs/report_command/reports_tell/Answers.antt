use Rattle.vd_cmd_data.proofs.Reported.{reports_told}
use Rattle.vd_cmd_data.proofs.report_command.reports_tell.Goals as goal

pub returns : goal.returns
returns c = reports_told
