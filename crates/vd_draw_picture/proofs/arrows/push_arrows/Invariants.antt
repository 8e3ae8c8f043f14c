use Rattle.std.proofs.Common.{◌≡◌, ◌++◌, drop}
use Rattle.vd_draw_picture.specs.Arrows.{arrow_marks}
use Rattle.vd_draw_picture.proofs.arrows.push_arrows.Given as goal

abbrev pub invariant-loop-one : goal.invariant-loop-one
invariant-loop-one l = l.marks ++ arrow_marks l.ground.lanes.now l.ground.hosts l.ground.half l.ground.slots.now l.y (drop l.one-index l.moves)
    ≡ l.initial.marks ++ arrow_marks l.ground.lanes.now l.ground.hosts l.ground.half l.ground.slots.now 11 l.moves
