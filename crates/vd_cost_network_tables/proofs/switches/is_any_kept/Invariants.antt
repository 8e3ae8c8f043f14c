use Rattle.std.proofs.Common.{◌≡◌, ◌-◌, length}
use Rattle.std.specs.List.{list_any, range_with_len}
use Rattle.vd_cost_network_tables.specs.Tables.{is_kept}
use Rattle.vd_cost_network_tables.proofs.switches.is_any_kept.Given as goal

abbrev pub invariant-loop-place : goal.invariant-loop-place
invariant-loop-place l = list_any (is_kept l.list l.tests l.host) (range_with_len l.place (length l.tests - l.place)) ≡ list_any (is_kept l.list l.tests l.host) (range_with_len 0 (length l.tests))
