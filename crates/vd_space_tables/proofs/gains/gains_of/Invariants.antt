use Rattle.std.proofs.Common.{◌≡◌}
use Rattle.vd_space_prefix.specs.Transfers.{by_place}
use Rattle.vd_space_tables.specs.Gains.{gain_with}
use Rattle.vd_space_tables.proofs.gains.gains_of.Given as goal

abbrev pub invariant-loop-place : goal.invariant-loop-place
invariant-loop-place l = l.gains ≡ by_place l.place (gain_with l.outputs l.charge)
