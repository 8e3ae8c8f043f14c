use Rattle.std.proofs.Common.{◌≡◌, ℕ, ◌+◌, ◌<◌, ◌≤◌, [], ◌∷◌, ◌++◌, true, false, length, get_or, replicate, refl, sym, ap, ◌∙◌, subst, arith, below_more}
use Rattle.std.specs.Prelude.{All, Contains, IsTrue}
use Rattle.std.proofs.lemmas.Bool.{cases_lt, true≢false}
use Rattle.std.proofs.lemmas.List.{length-replicate, get_or-replicate, get_or_past}
use Rattle.std.proofs.lemmas.List.Elements.{All-push, Contains-push, Contains-append_left}
use Rattle.vd_solver.proofs.waiting.Waiting.all.Goals as goal

pub loop-rule-preserved : goal.loop-rule-preserved
loop-rule-preserved c =
    let before = c.loop-rule.queue.items in
    let items : c.push_back.new.self.items ≡ before ++ c.loop-rule.rule ∷ [] = c.in_ok-push_back.ensures.items in (
      subst (All (λ rule. rule < c.args.count)) (sym items) (All-push (λ rule. rule < c.args.count) before c.loop-rule.rule c.loop-rule.invariant.0 c.loop-rule-test.true),
      subst (λ xs. (rule : ℕ) → rule < c.loop-rule.rule + 1 → Contains xs rule) (sym items)
          (below_more (Contains (before ++ c.loop-rule.rule ∷ [])) c.loop-rule.rule (λ rule h. Contains-append_left before (c.loop-rule.rule ∷ []) rule (c.loop-rule.invariant.1 rule h)) (Contains-push before c.loop-rule.rule)),
    )
