use Rattle.std.proofs.Common.{◌∙◌, sym, subst, arith, ◌≤ℤ◌}
use Rattle.vd_search.proofs.Steps.{is_within-yes, is_not_below}
use Rattle.vd_search.proofs.Counts.{counted_all, counting_on, counts_itself}
use Rattle.vd_search.proofs.search_budget.counting.+count_on.Goals as goal

pub returns-then-is_last-clause-counted : goal.returns-then-is_last-clause-counted
returns-then-is_last-clause-counted g t c =
    let tree = g.P.Prefixes.tree c.args.prefix.now in
    let prefix = g.P.Prefixes.path c.args.prefix.now in
    let most = c.args.limits.now.most in
    let low = is_not_below most c.bound-bound.result (record { sfits = c.fits-limits.0.1 }) (record { sfits = c.bound-bound.type_inv }) c.if-bound-limits.false in
    counts_itself tree most prefix c.args.counted (is_within-yes tree most prefix (sym c.is_valid.ensures.valid ∙ c.if-not-is_valid.false) (subst (λ b. b ≤ℤ most) c.bound-bound.ensures low))

pub loop-choice-preserved : goal.loop-choice-preserved
loop-choice-preserved g t c =
    counting_on (g.P.Prefixes.tree c.args.prefix.now) (g.P.Prefixes.tree c.loop-choice.prefix) (g.P.Prefixes.tree c.enter.new.self) (g.P.Prefixes.tree c.leave.new.self) c.args.limits.now.most c.args.limits.now.budget
    (g.P.Prefixes.path c.args.prefix.now) (g.P.Prefixes.path c.loop-choice.prefix) (g.P.Prefixes.path c.enter.new.self) (g.P.Prefixes.path c.leave.new.self) c.args.counted c.loop-choice.sum c.count_on-sum.result c.loop-choice.choice
    c.loop-choice.invariant c.enter.ensures.tree c.enter.ensures.path c.count_on-sum.ensures.counted c.count_on-sum.ensures.few (c.leave.ensures.tree ∙ c.count_on-sum.ensures.tree)
    (c.leave.ensures.path (g.P.Prefixes.path c.loop-choice.prefix) c.loop-choice.choice (c.count_on-sum.ensures.path ∙ c.enter.ensures.path))

pub returns-clause-counted : goal.returns-clause-counted
returns-clause-counted g t c =
    let tree = g.P.Prefixes.tree c.args.prefix.now in
    let prefix = g.P.Prefixes.path c.args.prefix.now in
    let most = c.args.limits.now.most in
    let low = is_not_below most c.bound-bound.result (record { sfits = c.fits-limits.0.1 }) (record { sfits = c.bound-bound.type_inv }) c.if-bound-limits.false in
    let within = is_within-yes tree most prefix (sym c.is_valid.ensures.valid ∙ c.if-not-is_valid.false) (subst (λ b. b ≤ℤ most) c.bound-bound.ensures low) in
    let choices = c.choices-choice-end.ensures in
    let more = c.loop-choice.auto.choice-end in
    counted_all tree (g.P.Prefixes.tree c.loop-choice.prefix) most c.args.limits.now.budget prefix (g.P.Prefixes.path c.loop-choice.prefix) c.args.counted c.loop-choice.sum c.loop-choice.choice c.loop-choice.invariant
    (c.is_last.ensures c.if-is_last.false) within (omega (arith, choices, more))
