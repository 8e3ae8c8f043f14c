use Rattle.std.proofs.Common.{◌≡◌, drop}
use Rattle.std.specs.List.{list_any}
use Rattle.vd_draw_layout.specs.Lanes.{move_uses}
use Rattle.vd_draw_layout.proofs.lanes.moves_use.Given as goal

abbrev pub invariant-loop-one : goal.invariant-loop-one
invariant-loop-one l = list_any (move_uses l.protocol) (drop l.one-index l.moves) ≡ list_any (move_uses l.protocol) l.moves
