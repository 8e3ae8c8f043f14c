use Rattle.std.proofs.Common.{◌≡◌, false, None}
use Rattle.std.specs.Prelude.{slice_index_or}
use Rattle.vd_space.specs.Bounds.{least_below, only_if}
use Rattle.vd_cost_network_tables.proofs.cells.least_passing.Given as goal

abbrev pub invariant-loop-setting : goal.invariant-loop-setting
invariant-loop-setting l = l.least ≡ least_below l.setting (λ v. only_if (slice_index_or l.tests v false) (slice_index_or l.values v None))
