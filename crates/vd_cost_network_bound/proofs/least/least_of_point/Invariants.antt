use Rattle.std.proofs.Common.{◌≡◌}
use Rattle.std.specs.Prelude.{slice_index_or}
use Rattle.vd_space.specs.Bounds.{least_below}
use Rattle.vd_cost_network_bound.specs.Least.{value_with}
use Rattle.vd_cost_network_bound.proofs.least.least_of_point.Given as goal

abbrev pub invariant-loop-setting : goal.invariant-loop-setting
invariant-loop-setting l = l.least ≡ least_below l.setting-index (λ k. value_with l.values l.amounts (slice_index_or l.settings k 0))
