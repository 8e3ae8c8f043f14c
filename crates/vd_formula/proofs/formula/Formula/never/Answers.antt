use Rattle.vd_formula.proofs.Tables.{never_is}
use Rattle.vd_formula.proofs.formula.Formula.never.Goals as goal

pub returns-clause-never : goal.returns-clause-never
returns-clause-never c = never_is c.args.names
