use Rattle.std.proofs.Common.{◌≡◌, ◌≤◌, length, take, subst, sym, refl, ◌∙◌, arith}
use Rattle.std.specs.Prelude.{All}
use Rattle.std.proofs.lemmas.List.{take_all}
use Rattle.std.proofs.lemmas.List.Elements.{All-nil}
use Rattle.std.proofs.lemmas.Bool.{true≢false}
use Rattle.vd_constraints.specs.Systems.{IsRuleOf, IsCheckOf}
use Rattle.vd_constraints.specs.Satisfies.{HoldsCheck, HoldsRule}
use Rattle.vd_constraints.proofs.Front.{names-rule, names-check, has_it, one_more, first_without, not_all}
use Rattle.vd_flow.proofs.confirm.Goals as goal

pub holds_rule-requires : goal.holds_rule-requires
holds_rule-requires c =
    let read = c.lower-rule-items.ensures in
    names-rule c.args.system.now c.args.labels.now c.requires c.rule-item.result
    (has_it _ _ read.same c.loop-place.place c.rule-item.result c.loop-place-test.true c.rule-item.is (IsRuleOf c.args.system.now) read.valid.rules)

pub loop-place-preserved : goal.loop-place-preserved
loop-place-preserved c =
    one_more _ _ c.lower-rule-items.ensures.same c.loop-place.place c.rule-item.result c.loop-place-test.true c.rule-item.is (HoldsRule c.args.labels.now)
    (c.holds_rule.ensures.0 c.if-not-holds_rule.false) c.loop-place.invariant

pub returns-then-not-holds_rule-clause-fault : goal.returns-then-not-holds_rule-clause-fault
returns-then-not-holds_rule-clause-fault c =
    first_without _ _ c.lower-rule-items.ensures.same c.loop-place.place c.rule-item.result c.loop-place-test.true c.rule-item.is (HoldsRule c.args.labels.now)
    (λ holds. true≢false (sym (c.holds_rule.ensures.1 holds) ∙ c.if-not-holds_rule.true)) c.loop-place.invariant

pub returns-then-not-holds_rule-clause-exact : goal.returns-then-not-holds_rule-clause-exact
returns-then-not-holds_rule-clause-exact c =
    (λ e. absurd (true≢false (sym e)), λ is. absurd (not_all (HoldsRule c.args.labels.now) c.args.system.now.lower c.loop-place.place (returns-then-not-holds_rule-clause-fault c) is.solves.rules))

pub loop-place-2-init : goal.loop-place-2-init
loop-place-2-init c =
    let read = c.lower-rule-items.ensures.same in
    let past : length c.lower-rule-items.result.now ≤ c.loop-place.place = c.loop-place-test.false in
    let all : length c.args.system.now.lower ≤ c.loop-place.place = subst (λ xs. length xs ≤ c.loop-place.place) read past in
    (subst (All (HoldsRule c.args.labels.now)) (take_all c.loop-place.place c.args.system.now.lower all) c.loop-place.invariant, All-nil (HoldsCheck c.args.labels.now))

pub holds_check-requires : goal.holds_check-requires
holds_check-requires c =
    let read = c.checks-check-items.ensures in
    names-check c.args.system.now c.args.labels.now c.requires c.check-item.result
    (has_it _ _ read.same c.loop-place-2.place c.check-item.result c.loop-place-2-test.true c.check-item.is (IsCheckOf c.args.system.now) read.valid.checks)

pub loop-place-2-preserved : goal.loop-place-2-preserved
loop-place-2-preserved c = (
  c.loop-place-2.invariant.0,
  one_more _ _ c.checks-check-items.ensures.same c.loop-place-2.place c.check-item.result c.loop-place-2-test.true c.check-item.is (HoldsCheck c.args.labels.now)
      (c.holds_check.ensures.0 c.if-not-holds_check.false) c.loop-place-2.invariant.1,
)

pub returns-then-not-holds_check-clause-fault : goal.returns-then-not-holds_check-clause-fault
returns-then-not-holds_check-clause-fault c = (
  c.loop-place-2.invariant.0,
  first_without _ _ c.checks-check-items.ensures.same c.loop-place-2.place c.check-item.result c.loop-place-2-test.true c.check-item.is (HoldsCheck c.args.labels.now)
      (λ holds. true≢false (sym (c.holds_check.ensures.1 holds) ∙ c.if-not-holds_check.true)) c.loop-place-2.invariant.1,
)

pub returns-then-not-holds_check-clause-exact : goal.returns-then-not-holds_check-clause-exact
returns-then-not-holds_check-clause-exact c =
    (λ e. absurd (true≢false (sym e)), λ is. absurd (not_all (HoldsCheck c.args.labels.now) c.args.system.now.checks c.loop-place-2.place (returns-then-not-holds_check-clause-fault c).1 is.checks))

pub returns-clause-exact : goal.returns-clause-exact
returns-clause-exact c =
    let past : length c.checks-check-items.result.now ≤ c.loop-place-2.place = c.loop-place-2-test.false in
    let all : length c.args.system.now.checks ≤ c.loop-place-2.place = subst (λ xs. length xs ≤ c.loop-place-2.place) c.checks-check-items.ensures.same past in (
      λ _. record {
        solves = record { labelling = c.requires; rules = c.loop-place-2.invariant.0 };
        checks = subst (All (HoldsCheck c.args.labels.now)) (take_all c.loop-place-2.place c.args.system.now.checks all) c.loop-place-2.invariant.1;
      },
      λ _. refl,
    )
