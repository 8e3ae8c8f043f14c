use Rattle.std.proofs.Common.{◌≡◌, ◌++◌}
use Rattle.vd_cost_network_ascent.specs.Shifts.{PutsRow, row_shifts}
use Rattle.vd_cost_network_ascent.proofs.cost_network_shifts.made.put_row.Given as goal

abbrev pub invariant-loop-place : goal.invariant-loop-place
invariant-loop-place l = record {
  puts : PutsRow l.at l.place l.initial.shifts l.shifts;
  adds : l.shifts ≡ l.initial.shifts ++ row_shifts l.at l.side l.row l.place;
}
