use Rattle.std.proofs.Common.{◌≡◌, take}
use Rattle.std.specs.List.{fold}
use Rattle.vd_draw_layout.specs.Numbers.{with_move}
use Rattle.vd_draw_layout.proofs.numbers.moves_cost.Given as goal

abbrev pub invariant-loop-one : goal.invariant-loop-one
invariant-loop-one l = l.cost ≡ fold with_move 0 (take l.one-index l.moves)
