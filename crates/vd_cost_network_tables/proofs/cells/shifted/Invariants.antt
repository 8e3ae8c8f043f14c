use Rattle.std.proofs.Common.{◌≡◌, [], pos}
use Rattle.std.specs.Prelude.{slice_index_or}
use Rattle.vd_space_prefix.specs.Transfers.{by_place}
use Rattle.vd_cost_network_tables.specs.Tables.{shifted_row}
use Rattle.vd_cost_network_tables.proofs.cells.shifted.Given as goal

abbrev pub invariant-loop-first : goal.invariant-loop-first
invariant-loop-first l = l.shifted ≡ by_place l.first (λ v. shifted_row (slice_index_or l.cells v []) (slice_index_or l.from v (pos 0)) l.to)
