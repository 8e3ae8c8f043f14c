use Rattle.std.proofs.Common.{◌≡◌, false, None}
use Rattle.std.specs.Prelude.{slice_index_or}
use Rattle.vd_space.specs.Bounds.{least_below, only_if}
use Rattle.vd_space_tables.proofs.charges.least_where_passing.Given as goal

abbrev pub invariant-loop-place : goal.invariant-loop-place
invariant-loop-place l = l.least ≡ least_below l.place (λ p. only_if (slice_index_or l.tests p false) (slice_index_or l.values p None))
