use Rattle.std.proofs.Common.{◌≡◌, drop}
use Rattle.vd_draw_layout.specs.Lanes.{lane_x}
use Rattle.vd_draw_layout.proofs.lanes.lane_x.Given as goal

abbrev pub invariant-loop-lane : goal.invariant-loop-lane
invariant-loop-lane l = lane_x (drop l.lane-index l.lanes) l.protocol ≡ lane_x l.lanes l.protocol
