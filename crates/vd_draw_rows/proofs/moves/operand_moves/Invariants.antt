use Rattle.std.proofs.Common.{◌≡◌, map, take}
use Rattle.vd_draw_rows.specs.Moves.{move_of}
use Rattle.vd_draw_rows.proofs.moves.operand_moves.Given as goal

abbrev pub invariant-loop-operand : goal.invariant-loop-operand
invariant-loop-operand l = l.moves ≡ map (λ y. move_of l.list y l.to) (take l.operand-index l.operands)
