use Rattle.std.proofs.Common.{◌≡◌, ◌+◌, length, sym, ap, ◌∙◌, subst}
use Rattle.std.specs.List.{list_any, list_all}
use Rattle.vd_base.specs.declared.form.Form.TheVariants as form
use Rattle.vd_formula.specs.TruthTable.{any_of, never_of, name_of}
use Rattle.vd_formula.specs.Forms.{formula_of}
use Rattle.vd_formula.proofs.FormSteps.{formula_of-any, formula_of-never, formula_of-name}
use Rattle.vd_formula.proofs.FormTruths.{Joined, formula_of-unknown, both_first, either_first, both_next, either_next, both_last, either_last}
use Rattle.vd_formula.proofs.formula.Formula.+over.Goals as goal

pub returns-in-Any-clause-formula : goal.returns-in-Any-clause-formula
returns-in-Any-clause-formula t c =
    c.any.ensures.any ∙ ap any_of (ap length c.as_slice.ensures) ∙ formula_of-any c.args.names.now ∙ ap (λ f. formula_of f c.args.names.now) (sym c.in-Any.is)

pub returns-in-Never-clause-formula : goal.returns-in-Never-clause-formula
returns-in-Never-clause-formula t c =
    c.never.ensures.never ∙ ap never_of (ap length c.as_slice.ensures) ∙ formula_of-never c.args.names.now ∙ ap (λ f. formula_of f c.args.names.now) (sym c.in-Never.is)

pub returns-in-Some-clause-formula : goal.returns-in-Some-clause-formula
returns-in-Some-clause-formula t c =
    c.name.ensures.name ∙ ap (name_of c.in-Some.place) (ap length c.as_slice.ensures)
    ∙ formula_of-name c.args.names.now c.in-Name.name c.in-Some.place (sym c.in-Some.ensures) ∙ ap (λ f. formula_of f c.args.names.now) (sym c.in-Name.is)

pub returns-in-None-clause-formula : goal.returns-in-None-clause-formula
returns-in-None-clause-formula t c =
    c.never-in-None.ensures.never ∙ ap never_of (ap length c.as_slice.ensures)
    ∙ formula_of-unknown c.args.names.now c.in-Name.name (sym c.in-None.ensures) ∙ ap (λ f. formula_of f c.args.names.now) (sym c.in-Name.is)

pub loop-part-init : goal.loop-part-init
loop-part-init t c =
    let count : c.any-whole.result ≡ any_of (length c.args.names.now) = c.any-whole.ensures.any ∙ ap any_of (ap length c.as_slice.ensures) in
    subst (λ f. Joined list_all c.args.names.now c.deref-part-items.result.now 0 f) (sym count) (both_first c.args.names.now c.deref-part-items.result.now c.requires)

pub loop-part-preserved : goal.loop-part-preserved
loop-part-preserved t c =
    subst (λ f. Joined list_all c.args.names.now c.deref-part-items.result.now (c.loop-part.part-index + 1) f) (sym c.both-whole.ensures.both)
    (both_next c.args.names.now c.deref-part-items.result.now c.loop-part.part-index c.loop-part.whole c.part-item.result c.loop-part-test.true c.part-item.is c.over.result c.over.ensures.formula c.over.ensures.valid c.over.ensures.names c.loop-part.invariant)

pub returns-after-loop-part-clause-formula : goal.returns-after-loop-part-clause-formula
returns-after-loop-part-clause-formula t c =
    both_last c.args.names.now c.deref-part-items.result.now c.loop-part.part-index c.loop-part.whole c.loop-part-test.false c.loop-part.invariant
    ∙ ap (λ f. formula_of f c.args.names.now) (ap form.Both (c.deref-part-items.ensures.value ∙ c.deref.ensures) ∙ sym c.in-Both.is)

pub loop-part-2-init : goal.loop-part-2-init
loop-part-2-init t c =
    let count : c.never-whole.result ≡ never_of (length c.args.names.now) = c.never-whole.ensures.never ∙ ap never_of (ap length c.as_slice.ensures) in
    subst (λ f. Joined list_any c.args.names.now c.deref-part-items-in-Either.result.now 0 f) (sym count) (either_first c.args.names.now c.deref-part-items-in-Either.result.now c.requires)

pub loop-part-2-preserved : goal.loop-part-2-preserved
loop-part-2-preserved t c =
    subst (λ f. Joined list_any c.args.names.now c.deref-part-items-in-Either.result.now (c.loop-part-2.part-index + 1) f) (sym c.either-whole.ensures.either)
    (either_next c.args.names.now c.deref-part-items-in-Either.result.now c.loop-part-2.part-index c.loop-part-2.whole c.part-item-in-loop-part-2.result c.loop-part-2-test.true c.part-item-in-loop-part-2.is c.over-in-loop-part-2.result c.over-in-loop-part-2.ensures.formula c.over-in-loop-part-2.ensures.valid c.over-in-loop-part-2.ensures.names c.loop-part-2.invariant)

pub returns-after-loop-part-2-clause-formula : goal.returns-after-loop-part-2-clause-formula
returns-after-loop-part-2-clause-formula t c =
    either_last c.args.names.now c.deref-part-items-in-Either.result.now c.loop-part-2.part-index c.loop-part-2.whole c.loop-part-2-test.false c.loop-part-2.invariant
    ∙ ap (λ f. formula_of f c.args.names.now) (ap form.Either (c.deref-part-items-in-Either.ensures.value ∙ c.deref-in-Either.ensures) ∙ sym c.in-Either.is)
