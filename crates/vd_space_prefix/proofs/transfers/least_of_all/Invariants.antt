use Rattle.std.proofs.Common.{◌≡◌, false}
use Rattle.std.specs.Prelude.{slice_index_or}
use Rattle.vd_space.specs.Bounds.{least_below, only_if}
use Rattle.vd_space_prefix.specs.Transfers.{row_of}
use Rattle.vd_space_prefix.proofs.transfers.least_of_all.Given as goal

abbrev pub invariant-loop-first : goal.invariant-loop-first
invariant-loop-first l = l.least ≡ least_below l.first (λ p. only_if (slice_index_or l.firsts p false) (row_of l.prices l.transfer l.seconds p))
