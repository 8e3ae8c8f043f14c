use Rattle.std.proofs.Common.{◌≡◌, sym, ap, ◌∙◌, subst, eqb-true, eq-eqb}
use Rattle.vd_formula.specs.TruthTable.{TruthTable, ActsFor}
use Rattle.vd_formula.proofs.Tables.{table}
use Rattle.vd_formula.proofs.Implies.{only_first, acts_for_if, acts_for_only_if, antisymmetric}
use Rattle.vd_formula.proofs.formula.Formula.acts_for.Goals as goal

pub returns-clause-acts_for : goal.returns-clause-acts_for
unfolding only_first
returns-clause-acts_for c =
    let names : c.self.inside.names ≡ c.other.inside.names = ap (λ t. t.names) c.self.view_is ∙ c.requires ∙ sym (ap (λ t. t.names) c.other.view_is) in
    let f = table c.self.inside.names c.self.inside.truths in
    let g = table c.other.inside.names c.other.inside.truths in (
      λ none. subst (λ (t : TruthTable). ActsFor t c.args.other.now) c.self.view_is (subst (λ (t : TruthTable). ActsFor f t) c.other.view_is (acts_for_if f g c.self.invariant c.other.invariant names (eqb-true _ _ none))),
      λ acts. eq-eqb _ _ (acts_for_only_if f g c.self.invariant c.other.invariant names (subst (λ (t : TruthTable). ActsFor t g) (sym c.self.view_is) (subst (λ (t : TruthTable). ActsFor c.args.self.now t) (sym c.other.view_is) acts))),
    )

pub returns-clause-antisymmetric : goal.returns-clause-antisymmetric
returns-clause-antisymmetric c =
    let names : c.self.inside.names ≡ c.other.inside.names = ap (λ t. t.names) c.self.view_is ∙ c.requires ∙ sym (ap (λ t. t.names) c.other.view_is) in
    let P : TruthTable → TruthTable → Type 0 = λ f g. ActsFor f g → ActsFor g f → f ≡ g in
    subst (λ f. P f c.args.other.now) c.self.view_is (subst (P _) c.other.view_is (antisymmetric (table c.self.inside.names c.self.inside.truths) (table c.other.inside.names c.other.inside.truths) c.self.invariant c.other.invariant names))
