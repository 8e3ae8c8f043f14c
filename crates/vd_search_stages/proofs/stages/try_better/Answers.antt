use Rattle.vd_search_stages.specs.Spending.{GivesOnly, IsSpentByArcs, network_part}
use Rattle.vd_search_stages.proofs.Spent.{if_unended, network_of_early}
use Rattle.vd_search_stages.proofs.stages.try_better.Goals as goal

pub returns-clause-arcs : goal.returns-clause-arcs
returns-clause-arcs g c =
    let gives = g.A.Ascents.arcs_give c.args.ascents.now c.args.problem.now in
    let walks = g.A.Ascents.walks_give c.args.ascents.now c.args.problem.now in
    if_unended (GivesOnly gives (IsSpentByArcs c.args.problem.now (network_part c.args.problem.now c.args.budget) walks)) c.try_above.result
    (network_of_early c.args.problem.now gives walks c.first_budget.result c.args.budget c.first_budget.ensures.part (rw c.in-Unended.is at c.in_ok-selection.ensures.arcs))
