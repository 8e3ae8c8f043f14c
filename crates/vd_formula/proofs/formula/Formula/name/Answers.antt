use Rattle.std.proofs.Common.{◌≡◌, sym, ap, ◌∙◌, subst}
use Rattle.std.specs.Prelude.{bit_and}
use Rattle.vd_formula.specs.TruthTable.{IsFormula, name_of}
use Rattle.vd_formula.proofs.Tables.{table, is_formula-name}
use Rattle.vd_formula.proofs.Implies.{name_is}
use Rattle.vd_formula.proofs.formula.Formula.name.Goals as goal

whole : (c : goal.After-sets_with) → table c.args.names (bit_and c.every_set.result c.sets_with.result) ≡ name_of c.args.place c.args.names
whole c =
    ap (λ all. table c.args.names (bit_and all c.sets_with.result)) c.every_set.ensures
    ∙ name_is c.args.place c.args.names c.requires.few_names c.sets_with.result c.sets_with.ensures

pub invariant_of-result : goal.invariant_of-result
invariant_of-result c = subst IsFormula (sym (whole c)) (is_formula-name c.args.place c.args.names c.requires.few_names)

pub returns-clause-name : goal.returns-clause-name
returns-clause-name c = whole c
