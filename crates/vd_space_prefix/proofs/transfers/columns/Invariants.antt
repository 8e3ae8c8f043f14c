use Rattle.std.proofs.Common.{◌≡◌}
use Rattle.std.specs.Prelude.{unwrap_or}
use Rattle.vd_space.specs.Bounds.{nothing_left}
use Rattle.vd_space_prefix.specs.Transfers.{by_place, column_of}
use Rattle.vd_space_prefix.proofs.transfers.columns.Given as goal

abbrev pub invariant-loop-second : goal.invariant-loop-second
invariant-loop-second l = l.columns ≡ by_place l.second (λ q. unwrap_or (column_of l.prices l.transfer l.firsts q) nothing_left)
