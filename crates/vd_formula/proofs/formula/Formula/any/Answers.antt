use Rattle.std.proofs.Common.{sym, ap, ◌∙◌, subst}
use Rattle.vd_formula.specs.TruthTable.{IsFormula}
use Rattle.vd_formula.proofs.Tables.{table, any_is, is_formula-any}
use Rattle.vd_formula.proofs.formula.Formula.any.Goals as goal

pub invariant_of-result : goal.invariant_of-result
invariant_of-result c = subst IsFormula (sym (ap (table c.args.names) c.every_set.ensures ∙ any_is c.args.names)) (is_formula-any c.args.names c.requires)

pub returns-clause-any : goal.returns-clause-any
returns-clause-any c = ap (table c.args.names) c.every_set.ensures ∙ any_is c.args.names
