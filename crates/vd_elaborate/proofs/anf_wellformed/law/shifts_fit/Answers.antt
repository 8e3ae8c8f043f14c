use Rattle.vd_elaborate.proofs.Declared.{shifts_fit_all}
use Rattle.vd_elaborate.proofs.anf_wellformed.law.shifts_fit.Goals as goal

pub returns : goal.returns
returns c = shifts_fit_all
