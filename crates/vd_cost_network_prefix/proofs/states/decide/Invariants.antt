use Rattle.std.proofs.Common.{◌≡◌, ℕ, ◌<◌, None, length, get_or}
use Rattle.vd_space.specs.Points.{decided}
use Rattle.vd_cost_network_prefix.specs.States.{count_of_points}
use Rattle.vd_cost_network_prefix.proofs.states.decide.Given as goal

abbrev pub invariant-loop-point : goal.invariant-loop-point
invariant-loop-point l = record {
  size : length l.states ≡ count_of_points l.problem;
  written : (k : ℕ) → k < l.point → get_or l.states k None ≡ decided l.problem l.prefix k;
}
