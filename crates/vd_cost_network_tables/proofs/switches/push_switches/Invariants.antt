use Rattle.std.proofs.Common.{◌≡◌, ◌++◌, map}
use Rattle.std.specs.List.{range_with_len}
use Rattle.vd_base.specs.HostSets.{host}
use Rattle.vd_cost_network_tables.specs.Tables.{switch_table}
use Rattle.vd_cost_network_tables.proofs.switches.push_switches.Given as goal

abbrev pub invariant-loop-at : goal.invariant-loop-at
invariant-loop-at l = l.switches ≡ l.initial.switches ++ map (λ k. switch_table l.problem l.number l.guard (host k)) (range_with_len 0 l.at)
