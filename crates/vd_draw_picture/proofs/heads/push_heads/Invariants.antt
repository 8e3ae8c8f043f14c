use Rattle.std.proofs.Common.{◌≡◌, ◌++◌, take, flat_map}
use Rattle.vd_draw_picture.specs.Heads.{head_marks}
use Rattle.vd_draw_picture.proofs.heads.push_heads.Given as goal

abbrev pub invariant-loop-lane : goal.invariant-loop-lane
invariant-loop-lane l = l.marks ≡ l.initial.marks ++ flat_map (head_marks l.hosts) (take l.lane-index l.lanes)
