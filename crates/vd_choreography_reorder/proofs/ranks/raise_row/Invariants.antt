use Rattle.std.proofs.Common.{◌≡◌, ◌+◌}
use Rattle.std.specs.Prelude.{slice_index}
use Rattle.vd_reorder.specs.ReorderLawsTesting.{row}
use Rattle.vd_choreography_reorder.specs.Ranks.{noted}
use Rattle.vd_choreography_reorder.proofs.ranks.raise_row.Given as goal

abbrev pub invariant-registers : goal.invariant-registers
invariant-registers l =
    (noted l.column (row l.register l.left) l.rank (slice_index l.ranks) ≡ noted l.column (row l.fn.row.first.0 l.fn.row.count) l.rank (slice_index l.initial.ranks))
    × (l.register + l.left ≡ l.fn.row.first.0 + l.fn.row.count)

abbrev pub decreases-registers : goal.decreases-registers
decreases-registers l = l.left
