use Rattle.std.proofs.Common.{◌≡◌, true, false, sym, ap, ◌∙◌, subst}
use Rattle.vd_search.specs.Answers.{Answers}
use Rattle.vd_search.specs.Untied.{WhySpent, is_at_cost}
use Rattle.vd_search.proofs.Ties.{answers_same, another_cost}
use Rattle.vd_search.proofs.search_nogoods.searching.search_untied.Goals as goal

pub returns-clause-answers : goal.returns-clause-answers
returns-clause-answers g c =
    let made = c.in_ok-untied.untied in
    let same = c.in_ok-untied.ensures {u = tt} in
    let at : is_at_cost made.most c.in_ok-answer.answer ≡ true = ap (λ most. is_at_cost most c.in_ok-answer.answer) same.most ∙ sym c.is_at_cost.ensures ∙ c.if-not-is_at_cost.false in
    subst (λ prefix. Answers (g.P.Prefixes.tree prefix) c.args.budget c.in_ok-answer.answer) same.inner
    (answers_same (g.P.Prefixes.tree made.inner) made.most made.passed made.costly c.args.budget c.in_ok-answer.answer at (c.in_ok-answer.ensures {u = tt}).answer)

pub returns-then-not-is_at_cost-clause-spent : goal.returns-then-not-is_at_cost-clause-spent
returns-then-not-is_at_cost-clause-spent g c = λ spent.
    let made = c.in_ok-untied.untied in
    let same = c.in_ok-untied.ensures {u = tt} in
    let other : is_at_cost made.most c.in_ok-answer.answer ≡ false = ap (λ most. is_at_cost most c.in_ok-answer.answer) same.most ∙ sym c.is_at_cost.ensures ∙ c.if-not-is_at_cost.true in
    subst (λ passed. WhySpent (g.P.Prefixes.tree c.args.prefix) c.args.most passed c.args.budget) same.passed
    (subst (λ most. WhySpent (g.P.Prefixes.tree c.args.prefix) most made.passed c.args.budget) same.most
    (subst (λ prefix. WhySpent (g.P.Prefixes.tree prefix) made.most made.passed c.args.budget) same.inner
    (another_cost (g.P.Prefixes.tree made.inner) made.most made.passed made.costly c.args.budget c.in_ok-answer.answer other (c.in_ok-answer.ensures {u = tt}).answer)))
