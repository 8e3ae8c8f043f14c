use Rattle.std.proofs.Common.{◌≡◌, ◌*◌, [], take}
use Rattle.vd_space.specs.Costs.{total}
use Rattle.vd_space.specs.Growth.{guard_sum}
use Rattle.vd_space_prefix.specs.Transfers.{IsWithin}
use Rattle.vd_space_tables.proofs.start.told_sum.Given as goal

abbrev pub invariant-loop-number : goal.invariant-loop-number
invariant-loop-number l = record {
  sum : l.sum ≡ total (guard_sum l.problem []) (take l.number l.problem.guards);
  within : IsWithin (4294967296 * l.number) l.sum;
}
