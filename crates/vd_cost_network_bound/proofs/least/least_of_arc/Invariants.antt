use Rattle.std.proofs.Common.{◌≡◌, [], pos}
use Rattle.std.specs.Prelude.{slice_index_or}
use Rattle.vd_space.specs.Bounds.{least_below}
use Rattle.vd_cost_network_bound.specs.Least.{least_of_row}
use Rattle.vd_cost_network_bound.proofs.least.least_of_arc.Given as goal

abbrev pub invariant-loop-setting : goal.invariant-loop-setting
invariant-loop-setting l = l.least ≡ least_below l.setting-index
    (λ k. least_of_row l.seconds (slice_index_or l.cells (slice_index_or l.firsts k 0) []) (slice_index_or l.from (slice_index_or l.firsts k 0) (pos 0)) l.to)
