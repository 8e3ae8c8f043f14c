use Rattle.vd_cmd_plan.proofs.Carried.{input_carried}
use Rattle.vd_cmd_plan.proofs.refusals.input_status.Goals as goal

pub returns-in_default : goal.returns-in_default
returns-in_default c = input_carried c.args.fault c.in_default.not-Memory
