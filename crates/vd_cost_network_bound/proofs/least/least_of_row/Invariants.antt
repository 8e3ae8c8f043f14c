use Rattle.std.proofs.Common.{◌≡◌}
use Rattle.std.specs.Prelude.{slice_index_or}
use Rattle.vd_space.specs.Bounds.{least_below}
use Rattle.vd_cost_network_bound.specs.Least.{cell_less}
use Rattle.vd_cost_network_bound.proofs.least.least_of_row.Given as goal

abbrev pub invariant-loop-setting : goal.invariant-loop-setting
invariant-loop-setting l = l.least ≡ least_below l.setting-index (λ k. cell_less l.row l.from l.to (slice_index_or l.seconds k 0))
