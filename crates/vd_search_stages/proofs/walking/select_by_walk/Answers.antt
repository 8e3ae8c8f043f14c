use Rattle.vd_search_stages.proofs.Spent.{no_walk, walk_to_bound}
use Rattle.vd_search_stages.proofs.walking.select_by_walk.Goals as goal

pub returns-in-Some-clause-over : goal.returns-in-Some-clause-over
returns-in-Some-clause-over g c =
    let path = c.in_ok-path.path in
    walk_to_bound c.args.tables.now.problem.now path.problem.now c.args.tables.now.by_arcs.now path.by_arcs.now (g.A.Ascents.walks_give c.args.ascents.now c.args.tables.now.problem.now) c.in-Some.most c.args.budget c.select_at.result c.in_ok-path.ensures.problem
    c.in_ok-path.ensures.by_arcs c.in-Some.ensures.bound c.select_at.ensures.over

pub returns-in-None-clause-over : goal.returns-in-None-clause-over
returns-in-None-clause-over g c =
    let path = c.in_ok-path.path in
    no_walk c.args.tables.now.problem.now path.problem.now c.args.tables.now.by_arcs.now path.by_arcs.now (g.A.Ascents.walks_give c.args.ascents.now c.args.tables.now.problem.now) c.args.budget c.in_ok-path.ensures.problem c.in_ok-path.ensures.by_arcs c.in-None.ensures.none
