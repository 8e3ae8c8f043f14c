use Rattle.std.proofs.Common.{◌≡◌}
use Rattle.std.specs.Prelude.{unwrap_or}
use Rattle.vd_space.specs.Bounds.{nothing_left}
use Rattle.vd_space_prefix.specs.Transfers.{by_place, row_of}
use Rattle.vd_space_prefix.proofs.transfers.rows.Given as goal

abbrev pub invariant-loop-first : goal.invariant-loop-first
invariant-loop-first l = l.rows ≡ by_place l.first (λ p. unwrap_or (row_of l.prices l.transfer l.seconds p) nothing_left)
