use Rattle.std.proofs.Common.{◌≡◌, ◌-◌, ◌*◌, ◌≤◌, length}
use Rattle.std.specs.Prelude.{unwrap_or}
use Rattle.vd_space_api.proofs.Telling.{told_from}
use Rattle.vd_space_api.proofs.least.index_price.Given as goal

abbrev pub invariant-loop-host : goal.invariant-loop-host
invariant-loop-host l = record {
  sum : l.sum ≡ told_from l.problem l.index l.array l.host;
  small : unwrap_or l.sum 0 ≤ 4294967295 * (length l.problem.hosts - l.host);
}
