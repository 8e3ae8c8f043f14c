use Rattle.std.proofs.Common.{◌≡◌, ◌*◌, ◌≤◌, length}
use Rattle.std.specs.Prelude.{unwrap_or}
use Rattle.vd_space.specs.Costs.{moves_to, hosts_at, plus}
use Rattle.vd_space_tables.proofs.Telling.{rest_from}
use Rattle.vd_space_tables.proofs.space_terms.prices.index_price.Given as goal

abbrev pub invariant-loop-host : goal.invariant-loop-host
invariant-loop-host l = record {
  sum : plus l.sum (rest_from l.problem l.index l.array l.host (length l.problem.hosts)) ≡ moves_to l.problem l.index (hosts_at l.problem l.array);
  few : unwrap_or l.sum 0 ≤ 212 * l.host;
}
