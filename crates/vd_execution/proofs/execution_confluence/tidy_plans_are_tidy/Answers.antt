use Rattle.vd_execution.proofs.Gadgets.{plan_tidy}
use Rattle.vd_execution.proofs.execution_confluence.tidy_plans_are_tidy.Goals as goal

pub returns : goal.returns
returns c = plan_tidy
