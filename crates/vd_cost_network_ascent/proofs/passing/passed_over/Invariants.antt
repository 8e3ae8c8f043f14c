use Rattle.std.proofs.Common.{◌≡◌}
use Rattle.std.specs.List.{All}
use Rattle.vd_cost_network_bound.specs.Ascents.{IsBeyond}
use Rattle.vd_cost_network_ascent.proofs.passing.passed_over.Given as goal

abbrev pub invariant-loop : goal.invariant-loop
invariant-loop l = (l.walk.problem.now ≡ l.problem) × All (IsBeyond l.problem l.most) l.passed
