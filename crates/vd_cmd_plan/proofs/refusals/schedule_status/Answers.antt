use Rattle.vd_cmd_plan.proofs.Carried.{schedule_carried}
use Rattle.vd_cmd_plan.proofs.refusals.schedule_status.Goals as goal

pub returns-in_default : goal.returns-in_default
returns-in_default c = schedule_carried c.args.fault c.in_default.not-Memory
