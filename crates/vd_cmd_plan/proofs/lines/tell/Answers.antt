use Rattle.vd_cmd_plan.proofs.Written.{says}
use Rattle.vd_cmd_plan.proofs.lines.tell.Goals as goal

pub returns-in-None : goal.returns-in-None
returns-in-None g c = says _ _ _ _ c.write_status.ensures
