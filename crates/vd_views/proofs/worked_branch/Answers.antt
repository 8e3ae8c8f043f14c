use Rattle.vd_views.proofs.MovedExample.{branch_numbers}
use Rattle.vd_views.proofs.worked_branch.Goals as goal

pub returns : goal.returns
returns c = branch_numbers
