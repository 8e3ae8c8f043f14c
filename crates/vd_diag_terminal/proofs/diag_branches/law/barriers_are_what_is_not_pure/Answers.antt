use Rattle.vd_diag_terminal.proofs.Pure.{there}
use Rattle.vd_diag_terminal.proofs.diag_branches.law.barriers_are_what_is_not_pure.Goals as goal

pub returns : goal.returns
returns c = there
