use Rattle.vd_cmd_plan.proofs.ShownPlain.{names_plain}
use Rattle.vd_cmd_plan.proofs.shown.names_are_shown_plain.Goals as goal

pub returns : goal.returns
returns c = names_plain
