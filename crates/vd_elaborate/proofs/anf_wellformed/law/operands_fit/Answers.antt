use Rattle.vd_elaborate.proofs.Operands.{operands_fit_all}
use Rattle.vd_elaborate.proofs.anf_wellformed.law.operands_fit.Goals as goal

pub returns : goal.returns
returns c = operands_fit_all
