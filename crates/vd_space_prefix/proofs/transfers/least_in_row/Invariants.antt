use Rattle.std.proofs.Common.{◌≡◌, false}
use Rattle.std.specs.Prelude.{slice_index_or}
use Rattle.vd_space.specs.Bounds.{least_below, only_if}
use Rattle.vd_space_prefix.specs.Transfers.{cell}
use Rattle.vd_space_prefix.proofs.transfers.least_in_row.Given as goal

abbrev pub invariant-loop-second : goal.invariant-loop-second
invariant-loop-second l = l.least ≡ least_below l.second (λ q. only_if (slice_index_or l.seconds q false) (cell l.prices l.transfer l.first q))
