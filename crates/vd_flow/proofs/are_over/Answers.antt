use Rattle.std.proofs.Common.{refl, sym, ◌∙◌, subst}
use Rattle.std.specs.Prelude.{All}
use Rattle.std.proofs.lemmas.List.{take_all}
use Rattle.vd_constraints.specs.Systems.{IsLabelOver}
use Rattle.vd_constraints.proofs.Front.{one_more}
use Rattle.vd_flow.proofs.are_over.Goals as goal

pub loop-label-preserved : goal.loop-label-preserved
loop-label-preserved c =
    one_more c.args.labels.now c.args.labels.now refl c.loop-label.label-index c.label-item.result c.loop-label-test.true c.label-item.is (IsLabelOver c.args.names)
    (record {
      conf = record { is_formula = c.names.ensures.valid; over = sym c.names.ensures.names ∙ sym c.from.ensures ∙ c.if-from-names.false };
      integ = record { is_formula = c.names-else-from-names.ensures.valid; over = sym c.names-else-from-names.ensures.names ∙ sym c.from-else-from-names.ensures ∙ c.if-from-names-2.false };
    }) c.loop-label.invariant

pub returns : goal.returns
returns c =
    let all = subst (All (IsLabelOver c.args.names)) (take_all c.loop-label.label-index c.args.labels.now c.loop-label-test.false) c.loop-label.invariant in
    (λ _. all, λ _. refl)
