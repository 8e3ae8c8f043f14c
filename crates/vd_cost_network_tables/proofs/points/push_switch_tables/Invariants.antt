use Rattle.std.proofs.Common.{◌≡◌, ◌+◌, length}
use Rattle.vd_space_prefix.specs.Transfers.{by_place}
use Rattle.vd_cost_network_tables.specs.Tables.{table_by}
use Rattle.vd_cost_network_tables.proofs.points.push_switch_tables.Given as goal

abbrev pub invariant-loop-number : goal.invariant-loop-number
invariant-loop-number l = l.tables ≡ by_place (length l.problem.slots + l.number) (table_by l.problem l.sums)
