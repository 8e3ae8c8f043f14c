use Rattle.std.proofs.Common.{◌≡◌, ◌*◌, take}
use Rattle.vd_space_prefix.specs.Guards.{guard_changes}
use Rattle.vd_space_prefix.specs.Transfers.{IsWithin}
use Rattle.vd_space_prefix.proofs.guards.growth_of_guards.Given as goal

abbrev pub invariant-loop-number : goal.invariant-loop-number
invariant-loop-number l = record {
  sum : l.sum ≡ guard_changes l.problem l.tellings (take l.number-index l.numbers) l.before l.after;
  within : IsWithin (8589934592 * l.number-index) l.sum;
}
