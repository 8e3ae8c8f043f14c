use Rattle.vd_cmd_compile_early.proofs.Hashed.{plans_tell}
use Rattle.vd_cmd_compile_early.proofs.laws.plans_tell_source_choice_and_order.Goals as goal

pub returns : goal.returns
returns c = plans_tell
