use Rattle.std.proofs.Common.{◌≡◌, []}
use Rattle.vd_search.proofs.search_budget.telling.is_exceeded.Given as goal

abbrev pub invariant-loop-round : goal.invariant-loop-round
invariant-loop-round g l = record {
  same : g.P.Prefixes.tree l.prefix ≡ g.P.Prefixes.tree l.fn.prefix;
  root : g.P.Prefixes.path l.prefix ≡ [];
}
