use Rattle.std.proofs.Common.{◌≡◌, drop}
use Rattle.std.specs.List.{list_any}
use Rattle.vd_draw_rows.specs.Wire.{move_sends}
use Rattle.vd_draw_rows.proofs.wire.any_sends.Given as goal

-- for none so far
abbrev pub invariant-loop-one : goal.invariant-loop-one
invariant-loop-one l = list_any move_sends (drop l.one-index l.moves) ≡ list_any move_sends l.moves
