use Rattle.std.proofs.Common.{◌≡◌, ◌++◌, take}
use Rattle.std.specs.Prelude.{filter}
use Rattle.vd_draw_layout.specs.Lanes.{has_lane}
use Rattle.vd_draw_layout.proofs.lanes.push_all_shared.Given as goal

abbrev pub invariant-loop-protocol : goal.invariant-loop-protocol
invariant-loop-protocol l = l.lanes ≡ l.initial.lanes ++ filter (has_lane l.rows l.host) (take l.protocol-index l.all)
