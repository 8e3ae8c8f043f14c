use Rattle.vd_views.proofs.Theorem.{choose_branches}
use Rattle.vd_views.proofs.views_programs.inputs_choose_the_branches.Goals as goal

pub returns : goal.returns
returns c = choose_branches
