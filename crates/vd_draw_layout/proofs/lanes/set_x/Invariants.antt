use Rattle.std.proofs.Common.{◌≡◌}
use Rattle.vd_base.specs.HostSets.{has_host}
use Rattle.vd_draw_layout.specs.Lanes.{hosts_x}
use Rattle.vd_draw_layout.proofs.lanes.set_x.Given as goal

abbrev pub invariant-loop-host : goal.invariant-loop-host
invariant-loop-host l = l.xs ≡ hosts_x l.lanes (has_host l.set) l.host
