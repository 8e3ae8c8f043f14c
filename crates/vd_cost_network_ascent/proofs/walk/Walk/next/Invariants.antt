use Rattle.std.proofs.Common.{◌≡◌}
use Rattle.vd_cost_network_ascent.proofs.walk.Walk.next.Given as goal

abbrev pub invariant-loop : goal.invariant-loop
invariant-loop l = l.self.problem.now ≡ l.initial.self.problem.now
