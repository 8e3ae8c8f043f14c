use Rattle.std.proofs.Common.{◌≡◌, sym, ap, ◌∙◌, subst}
use Rattle.vd_formula.specs.TruthTable.{IsFormula}
use Rattle.vd_formula.proofs.Tables.{either_is, is_formula-either}
use Rattle.vd_formula.proofs.formula.Formula.either.Goals as goal

pub invariant_of-result : goal.invariant_of-result
invariant_of-result c =
    let names : c.self.inside.names ≡ c.other.inside.names = ap (λ t. t.names) c.self.view_is ∙ c.requires ∙ sym (ap (λ t. t.names) c.other.view_is) in
    subst IsFormula (sym (either_is _ _ c.self.invariant c.other.invariant names)) (is_formula-either _ _ c.self.invariant c.other.invariant names)

pub returns-clause-either : goal.returns-clause-either
returns-clause-either c =
    let names : c.self.inside.names ≡ c.other.inside.names = ap (λ t. t.names) c.self.view_is ∙ c.requires ∙ sym (ap (λ t. t.names) c.other.view_is) in
    cc (either_is _ _ c.self.invariant c.other.invariant names, c.self.view_is, c.other.view_is)
