use Rattle.std.proofs.Common.{◌≡◌}
use Rattle.vd_draw_layout.specs.Lanes.{lanes_below}
use Rattle.vd_draw_layout.proofs.lanes.lanes_below.Given as goal

abbrev pub invariant-loop-host : goal.invariant-loop-host
invariant-loop-host l = l.lanes ≡ lanes_below l.rows l.all l.host
