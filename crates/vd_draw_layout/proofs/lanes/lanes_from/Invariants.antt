use Rattle.std.proofs.Common.{◌≡◌, ◌++◌, drop}
use Rattle.vd_draw_layout.specs.Lanes.{lanes_from}
use Rattle.vd_draw_layout.proofs.lanes.lanes_from.Given as goal

abbrev pub invariant-loop-protocol : goal.invariant-loop-protocol
invariant-loop-protocol l = l.lanes ++ lanes_from l.x l.gap (drop l.protocol-index l.protocols) ≡ lanes_from l.first l.gap l.protocols
