use Rattle.std.proofs.Common.{◌≡◌, take}
use Rattle.std.specs.List.{fold}
use Rattle.vd_draw_layout.specs.Layout.{with_row}
use Rattle.vd_draw_layout.proofs.layout.total_cost.Given as goal

abbrev pub invariant-loop-row : goal.invariant-loop-row
invariant-loop-row l = l.total ≡ fold with_row 0 (take l.row-index l.rows)
