use Rattle.std.proofs.Common.{◌≡◌, length}
use Rattle.vd_cost_network_prefix.proofs.states.undecided.Given as goal

abbrev pub invariant-loop : goal.invariant-loop
invariant-loop l = length l.states ≡ l.counter
