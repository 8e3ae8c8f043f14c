use Rattle.std.proofs.Common.{◌≡◌, drop}
use Rattle.std.specs.List.{list_any}
use Rattle.vd_draw_layout.specs.Lanes.{row_uses}
use Rattle.vd_draw_layout.proofs.lanes.is_used.Given as goal

abbrev pub invariant-loop-row : goal.invariant-loop-row
invariant-loop-row l = list_any (row_uses l.protocol) (drop l.row-index l.rows) ≡ list_any (row_uses l.protocol) l.rows
