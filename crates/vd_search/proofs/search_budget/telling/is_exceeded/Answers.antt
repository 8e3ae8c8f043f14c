use Rattle.std.proofs.Common.{◌∙◌, w64}
use Rattle.std.proofs.lemmas.Int.{to_z-of_z}
use Rattle.vd_search.proofs.Counts.{spent_below}
use Rattle.vd_search.proofs.search_budget.telling.is_exceeded.Goals as goal

pub returns-then-counted-budget-clause-exceeds : goal.returns-then-counted-budget-clause-exceeds
returns-then-counted-budget-clause-exceeds g c = λ is.
    let tree = g.P.Prefixes.tree c.args.prefix.now in
    spent_below tree (g.P.Prefixes.tree c.loop-round.prefix) (g.P.Prefixes.path c.loop-round.prefix) c.loop-round.invariant.same c.loop-round.invariant.root _ c.args.floor c.args.budget c.count_on-counted.result
    (to_z-of_z w64 c.less_one.result (record { sfits = c.less_one.type_inv }) ∙ c.less_one.ensures) c.slots-slots.ensures.bounded (c.requires.floor c.slots-slots.ensures.bounded) c.if-counted-budget.true c.count_on-counted.ensures.counted
