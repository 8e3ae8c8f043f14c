use Rattle.vd_cmd_run.proofs.Holding.{reports}
use Rattle.vd_cmd_run.proofs.laws.ended_runs_report.Goals as goal

pub returns : goal.returns
returns c = reports
