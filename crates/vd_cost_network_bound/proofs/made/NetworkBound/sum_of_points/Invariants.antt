use Rattle.std.proofs.Common.{◌≡◌, ◌*◌}
use Rattle.std.specs.List.{range_with_len}
use Rattle.vd_space.specs.Costs.{total}
use Rattle.vd_space_prefix.specs.Transfers.{IsWithin}
use Rattle.vd_cost_network_prefix.specs.States.{as_states, point_part}
use Rattle.vd_cost_network_tables.specs.Tables.{point_tables_of}
use Rattle.vd_cost_network_bound.proofs.made.NetworkBound.sum_of_points.Given as goal

abbrev pub invariant-loop-point : goal.invariant-loop-point
invariant-loop-point l = record {
  sum : l.sum ≡ total (point_part (point_tables_of l.problem l.shifts) (as_states l.states)) (range_with_len 0 l.point);
  within : IsWithin (1125899906842624 * l.point) l.sum;
}
