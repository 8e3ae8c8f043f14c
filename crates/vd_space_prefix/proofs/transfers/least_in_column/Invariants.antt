use Rattle.std.proofs.Common.{◌≡◌, false}
use Rattle.std.specs.Prelude.{slice_index_or}
use Rattle.vd_space.specs.Bounds.{least_below, only_if}
use Rattle.vd_space_prefix.specs.Transfers.{cell}
use Rattle.vd_space_prefix.proofs.transfers.least_in_column.Given as goal

abbrev pub invariant-loop-first : goal.invariant-loop-first
invariant-loop-first l = l.least ≡ least_below l.first (λ p. only_if (slice_index_or l.firsts p false) (cell l.prices l.transfer p l.second))
