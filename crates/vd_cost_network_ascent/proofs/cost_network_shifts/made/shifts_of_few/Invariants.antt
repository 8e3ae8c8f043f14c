use Rattle.std.proofs.Common.{◌≡◌}
use Rattle.vd_space.specs.Shifts.{AreShiftsOf}
use Rattle.vd_cost_network_ascent.specs.Shifts.{net_shifts}
use Rattle.vd_cost_network_dual.specs.Rows.{row_of}
use Rattle.vd_cost_network_ascent.proofs.cost_network_shifts.made.shifts_of_few.Given as goal

abbrev pub invariant-loop-at : goal.invariant-loop-at
invariant-loop-at l = record {
  are : AreShiftsOf l.arcs l.places l.shifts;
  amounts : l.shifts ≡ net_shifts (row_of l.nets.firsts) (row_of l.nets.seconds) l.places l.at;
}
