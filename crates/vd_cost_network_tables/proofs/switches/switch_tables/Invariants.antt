use Rattle.std.proofs.Common.{◌≡◌, ◌++◌, drop}
use Rattle.vd_cost_network_tables.specs.Tables.{switch_tables_from}
use Rattle.vd_cost_network_tables.proofs.switches.switch_tables.Given as goal

abbrev pub invariant-loop-number : goal.invariant-loop-number
invariant-loop-number l = l.switches ++ switch_tables_from l.problem l.number (drop l.number l.problem.guards) ≡ switch_tables_from l.problem 0 l.problem.guards
