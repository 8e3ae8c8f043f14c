use Rattle.std.proofs.Common.{◌≡◌, drop, length}
use Rattle.vd_cost_network_prefix.specs.States.{as_states, count_of_points, parts_by}
use Rattle.vd_cost_network_prefix.proofs.Changing.{AreWrittenBut}
use Rattle.vd_cost_network_prefix.proofs.deciding.decide_slot.Given as goal

abbrev pub invariant-loop-point : goal.invariant-loop-point
invariant-loop-point l = record {
  size : length l.states ≡ count_of_points l.problem;
  written : AreWrittenBut l.problem l.prefix (drop l.point-index l.changed) l.states;
  sum : l.sum ≡ parts_by l.tables (as_states l.states);
}
