use Rattle.std.proofs.Common.{◌≡◌}
use Rattle.vd_space_prefix.specs.Naming.{naming_of}
use Rattle.vd_space_prefix.specs.Transfers.{by_place}
use Rattle.vd_space_prefix.proofs.numbers.namings.Given as goal

abbrev pub invariant-loop-slot : goal.invariant-loop-slot
invariant-loop-slot l = l.namings ≡ by_place l.slot (naming_of l.problem)
