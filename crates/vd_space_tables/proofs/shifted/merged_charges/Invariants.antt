use Rattle.std.proofs.Common.{◌≡◌}
use Rattle.vd_space.specs.Bounds.{shifted_one}
use Rattle.vd_space_prefix.specs.Transfers.{by_place}
use Rattle.vd_space_tables.specs.Charges.{charge_of}
use Rattle.vd_space_tables.proofs.shifted.merged_charges.Given as goal

abbrev pub invariant-loop-slot : goal.invariant-loop-slot
invariant-loop-slot l = l.charges ≡ by_place l.slot (λ slot. charge_of l.problem (shifted_one l.problem l.shifts slot))
