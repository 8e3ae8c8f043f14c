use Rattle.std.proofs.Common.{◌≡◌, ◌≤◌, List, length, take, subst, sym, ap, ◌∙◌, arith}
use Rattle.std.specs.Prelude.{All}
use Rattle.std.proofs.lemmas.List.{take_all}
use Rattle.std.proofs.lemmas.Bool.{true≢false}
use Rattle.vd_formula.specs.TruthTable.{TruthTable, ActsFor}
use Rattle.vd_constraints.specs.declared.system.Check.{Check}
use Rattle.vd_constraints.specs.Satisfies.{HoldsCheck, formula_at}
use Rattle.vd_constraints.proofs.Front.{has_it, one_more, first_without}
use Rattle.vd_solver.proofs.LabelsLeastChecks.{no_labelling, least_of_all}
use Rattle.vd_solver.proofs.Checks.{check_names}
use Rattle.vd_solver.proofs.checking.first_failing.Goals as goal

pub acts_for-requires : goal.acts_for-requires
acts_for-requires c =
    has_it c.args.system.now.checks c.checks-check-items.result.now c.checks-check-items.ensures.same c.loop-place.place c.check-item.result c.loop-place-test.true c.check-item.is
    (λ (check : Check). check.constant.names ≡ (formula_at c.args.solution.now check.part).names) (check_names c.args.system.now c.checks-check-items.ensures.valid c.args.solution.now c.requires.is.labelling)
    ∙ ap (λ (f : TruthTable). f.names) (sym c.part.ensures)

pub loop-place-preserved : goal.loop-place-preserved
loop-place-preserved c =
    one_more c.args.system.now.checks c.checks-check-items.result.now c.checks-check-items.ensures.same c.loop-place.place c.check-item.result c.loop-place-test.true c.check-item.is (HoldsCheck c.args.solution.now)
    (subst (ActsFor c.check-item.result.constant) c.part.ensures (c.acts_for.ensures.acts_for.0 c.if-not-acts_for.false)) c.loop-place.invariant

pub returns-then-not-acts_for : goal.returns-then-not-acts_for
returns-then-not-acts_for c =
    no_labelling c.args.system.now c.checks-check-items.ensures.valid c.args.solution.now c.requires c.loop-place.place
    (first_without c.args.system.now.checks c.checks-check-items.result.now c.checks-check-items.ensures.same c.loop-place.place c.check-item.result c.loop-place-test.true c.check-item.is (HoldsCheck c.args.solution.now)
    (λ holds. true≢false (sym (c.acts_for.ensures.acts_for.1 (subst (ActsFor c.check-item.result.constant) (sym c.part.ensures) holds)) ∙ c.if-not-acts_for.true)) c.loop-place.invariant)

pub returns : goal.returns
returns c =
    least_of_all c.args.system.now c.checks-check-items.ensures.valid c.args.solution.now c.requires
    (subst (All (HoldsCheck c.args.solution.now))
    (take_all c.loop-place.place c.args.system.now.checks (subst (λ (checks : List Check). length checks ≤ c.loop-place.place) c.checks-check-items.ensures.same c.loop-place-test.false))
    c.loop-place.invariant)
