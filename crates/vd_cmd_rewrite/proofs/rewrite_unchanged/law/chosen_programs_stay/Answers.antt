use Rattle.vd_cmd_rewrite.proofs.Chosen.{programs_stay}
use Rattle.vd_cmd_rewrite.proofs.rewrite_unchanged.law.chosen_programs_stay.Goals as goal

pub returns : goal.returns
returns c = programs_stay
