use Rattle.std.proofs.Common.{◌≡◌, drop}
use Rattle.std.specs.List.{list_any}
use Rattle.vd_draw_picture.specs.Legend.{has_kind}
use Rattle.vd_draw_picture.proofs.legend.occurs.Given as goal

abbrev pub invariant-loop-row : goal.invariant-loop-row
invariant-loop-row l = list_any (has_kind l.kind) (drop l.row-index l.rows) ≡ list_any (has_kind l.kind) l.rows
