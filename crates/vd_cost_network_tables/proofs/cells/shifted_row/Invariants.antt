use Rattle.std.proofs.Common.{◌≡◌, None, option_map, pos, ◌+ℤ◌, ◌-ℤ◌}
use Rattle.std.specs.Prelude.{slice_index_or}
use Rattle.vd_space_prefix.specs.Transfers.{by_place}
use Rattle.vd_cost_network_tables.proofs.cells.shifted_row.Given as goal

abbrev pub invariant-loop-second : goal.invariant-loop-second
invariant-loop-second l = l.shifted ≡ by_place l.second (λ w. option_map (λ c. c -ℤ (slice_index_or l.from l.first (pos 0) +ℤ slice_index_or l.to w (pos 0))) (slice_index_or l.row w None))
