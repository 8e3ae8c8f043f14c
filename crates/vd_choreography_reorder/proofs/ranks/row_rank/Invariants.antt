use Rattle.std.proofs.Common.{◌≡◌, ◌+◌}
use Rattle.std.specs.Prelude.{slice_index}
use Rattle.vd_reorder.specs.ReorderLawsTesting.{row}
use Rattle.vd_choreography_reorder.specs.Ranks.{deepest}
use Rattle.vd_choreography_reorder.proofs.ranks.row_rank.Given as goal

abbrev pub invariant-registers : goal.invariant-registers
invariant-registers l =
    (deepest (slice_index l.ranks) l.column l.deepest (row l.register l.left) ≡ deepest (slice_index l.ranks) l.column l.least (row l.fn.row.first.0 l.fn.row.count))
    × (l.register + l.left ≡ l.fn.row.first.0 + l.fn.row.count)

abbrev pub decreases-registers : goal.decreases-registers
decreases-registers l = l.left
