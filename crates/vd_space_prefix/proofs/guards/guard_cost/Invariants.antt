use Rattle.std.proofs.Common.{◌≡◌, ◌*◌}
use Rattle.std.specs.List.{range_with_len}
use Rattle.vd_space.specs.Costs.{total}
use Rattle.vd_space_prefix.specs.Guards.{told_if}
use Rattle.vd_space_prefix.specs.Transfers.{IsWithin}
use Rattle.vd_space_prefix.proofs.guards.guard_cost.Given as goal

abbrev pub invariant-loop-host : goal.invariant-loop-host
invariant-loop-host l = record {
  sum : l.sum ≡ total (told_if l.problem l.prefix l.guard l.telling) (range_with_len 0 l.host);
  within : IsWithin (1073741824 * l.host) l.sum;
}
