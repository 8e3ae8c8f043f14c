use Rattle.std.proofs.Common.{◌≡◌, ◌+◌, ◌<◌, length, get_or, true, false, take, refl, sym, ap, ◌∙◌, subst, arith}
use Rattle.std.proofs.lemmas.List.{get_or_default}
use Rattle.vd_solver.specs.declared.waiting.Waiting.{Waiting}
use Rattle.vd_solver.specs.Visits.{AddsRules}
use Rattle.vd_solver.proofs.Queues.{adds_old, adds_new}
use Rattle.vd_solver.proofs.waiting.Waiting.add.Goals as goal
use Rattle.vd_solver.proofs.waiting.Waiting.add.Goals.{then-not-index+in_ok-push_back, else-not-index}

pub loop-rule-preserved : goal.loop-rule-preserved
loop-rule-preserved c =
    let i = c.loop-rule.rule-index in
    let rule = get_or c.args.rules.now i 0 in
    let is : rule ≡ get_or c.args.rules.now i rule = get_or_default c.args.rules.now i 0 rule c.loop-rule-test.true in
    let count = c.loop-rule.invariant.count in
    let fits : rule < length c.args.self.now.flags.items = c.requires.rules i 0 c.loop-rule-test.true in
    let within : rule < length c.loop-rule.self.flags.items = omega arith in
    elim c.if-not-index.branch [
      | then-not-index+in_ok-push_back w ↦ subst (λ (k : Waiting). AddsRules c.args.self.now (take (i + 1) c.args.rules.now) k) (sym w.self-is)
          (adds_new c.args.self.now c.loop-rule.self c.args.rules.now i rule c.loop-rule-test.true is c.loop-rule.invariant _ refl w.in_ok-push_back.ensures.items within)
      | else-not-index w ↦ subst (λ (k : Waiting). AddsRules c.args.self.now (take (i + 1) c.args.rules.now) k) (sym w.self-is)
          (adds_old c.args.self.now c.loop-rule.self c.args.rules.now i rule c.loop-rule-test.true is c.loop-rule.invariant
          (get_or_default c.loop-rule.self.flags.items rule false c.index.result.now within ∙ sym c.index.ensures ∙ w.if-not-index.false))
    ]
