use Rattle.std.proofs.Common.{◌≡◌, ◌++◌, drop}
use Rattle.vd_space.specs.Growth.{use_names}
use Rattle.vd_space_prefix.specs.Naming.{numbers_from}
use Rattle.vd_space_prefix.proofs.numbers.numbers_of_uses.Given as goal

abbrev pub invariant-loop-number : goal.invariant-loop-number
invariant-loop-number l = l.numbers ++ numbers_from (use_names l.slot) l.number (drop l.number l.uses) ≡ numbers_from (use_names l.slot) 0 l.uses
