use Rattle.std.proofs.Common.{◌≡◌, sym, ap, ◌∙◌, subst}
use Rattle.vd_formula.specs.TruthTable.{IsFormula}
use Rattle.vd_formula.proofs.Tables.{both_is, is_formula-both}
use Rattle.vd_formula.proofs.formula.Formula.both.Goals as goal

pub invariant_of-result : goal.invariant_of-result
invariant_of-result c =
    let names : c.self.inside.names ≡ c.other.inside.names = ap (λ t. t.names) c.self.view_is ∙ c.requires ∙ sym (ap (λ t. t.names) c.other.view_is) in
    subst IsFormula (sym (both_is _ _ c.self.invariant c.other.invariant names)) (is_formula-both _ _ c.self.invariant c.other.invariant names)

pub returns-clause-both : goal.returns-clause-both
returns-clause-both c =
    let names : c.self.inside.names ≡ c.other.inside.names = ap (λ t. t.names) c.self.view_is ∙ c.requires ∙ sym (ap (λ t. t.names) c.other.view_is) in
    cc (both_is _ _ c.self.invariant c.other.invariant names, c.self.view_is, c.other.view_is)
