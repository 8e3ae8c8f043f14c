use Rattle.std.proofs.Common.{◌≡◌, drop}
use Rattle.std.specs.List.{list_any}
use Rattle.vd_draw_picture.specs.Legend.{is_of_kind}
use Rattle.vd_draw_picture.proofs.legend.has_kind.Given as goal

abbrev pub invariant-loop-one : goal.invariant-loop-one
invariant-loop-one l = list_any (is_of_kind l.kind) (drop l.one-index l.row.moves) ≡ list_any (is_of_kind l.kind) l.row.moves
