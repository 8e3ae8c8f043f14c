use Rattle.vd_cmd_rewrite.proofs.Lengthened.{divisions_stay}
use Rattle.vd_cmd_rewrite.proofs.rewrite_unchanged.law.chosen_divisions_stay.Goals as goal

pub returns : goal.returns
returns c = divisions_stay
