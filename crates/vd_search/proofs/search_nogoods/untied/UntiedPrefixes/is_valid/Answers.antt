use Rattle.vd_search.proofs.Ties.{untied_bounded}
use Rattle.vd_search.proofs.search_nogoods.untied.UntiedPrefixes.is_valid.Goals as goal

pub returns-clause-bounded : goal.returns-clause-bounded
returns-clause-bounded g c =
    let p = c.args.self.now in
    untied_bounded (g.P.Prefixes.tree p.inner) p.most p.passed p.costly c.is_valid.ensures.bounded
