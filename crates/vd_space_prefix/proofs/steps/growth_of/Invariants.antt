use Rattle.std.proofs.Common.{◌≡◌, ◌*◌, take}
use Rattle.vd_space_prefix.specs.Steps.{changes}
use Rattle.vd_space_prefix.specs.Transfers.{IsWithin}
use Rattle.vd_space_prefix.proofs.steps.growth_of.Given as goal

abbrev pub invariant-loop-number : goal.invariant-loop-number
invariant-loop-number l = record {
  sum : l.sum ≡ changes l.prices l.arcs (take l.number-index l.numbers) l.before l.after;
  within : IsWithin (2251799813685248 * l.number-index) l.sum;
}
