use Rattle.vd_cmd_plan.proofs.Existing.{some_programs}
use Rattle.vd_cmd_plan.proofs.cmd_programs.program_outcomes_exist.Goals as goal

pub returns : goal.returns
returns c = some_programs
