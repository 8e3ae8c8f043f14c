use Rattle.std.proofs.Common.{◌≡◌}
use Rattle.vd_space_prefix.specs.Transfers.{by_place}
use Rattle.vd_space_tables.specs.Values.{merged_value}
use Rattle.vd_space_tables.proofs.values.merged_values.Given as goal

abbrev pub invariant-loop-place : goal.invariant-loop-place
invariant-loop-place l = l.values ≡ by_place l.place (merged_value l.problem l.slot l.shifted)
