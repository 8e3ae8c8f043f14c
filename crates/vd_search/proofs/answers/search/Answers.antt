use Rattle.vd_search.proofs.Floors.{no_floor}
use Rattle.vd_search.proofs.answers.search.Goals as goal

pub search_above-requires-clause-floor : goal.search_above-requires-clause-floor
search_above-requires-clause-floor g c = no_floor (g.P.Prefixes.tree c.args.prefix.now)
