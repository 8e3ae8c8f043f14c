use Rattle.std.proofs.Common.{◌≡◌, ◌++◌, map, take}
use Rattle.vd_draw_picture.specs.Heads.{lane_mark}
use Rattle.vd_draw_picture.proofs.heads.push_lanes.Given as goal

abbrev pub invariant-loop-lane : goal.invariant-loop-lane
invariant-loop-lane l = l.marks ≡ l.initial.marks ++ map (lane_mark l.bottom) (take l.lane-index l.lanes)
