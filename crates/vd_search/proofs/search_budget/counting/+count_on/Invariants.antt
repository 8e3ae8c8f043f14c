use Rattle.std.proofs.Common.{◌-◌, length}
use Rattle.vd_search.proofs.Counts.{Counting}
use Rattle.vd_search.proofs.search_budget.counting.+count_on.Given as goal

abbrev pub decreases-count_on : goal.decreases-count_on
decreases-count_on g l = (g.P.Prefixes.tree l.prefix.now).slots - length (g.P.Prefixes.path l.prefix.now)

abbrev pub invariant-loop-choice : goal.invariant-loop-choice
invariant-loop-choice g l =
    Counting (g.P.Prefixes.tree l.fn.prefix) (g.P.Prefixes.tree l.prefix) l.limits.most l.limits.budget (g.P.Prefixes.path l.fn.prefix) (g.P.Prefixes.path l.prefix) l.counted l.sum l.choice
