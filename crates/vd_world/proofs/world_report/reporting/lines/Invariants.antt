use Rattle.vd_world.specs.Reports.{lines_of}
use Rattle.std.proofs.Common.{◌≡◌}
use Rattle.vd_world.specs.Hosts.{supply_of, world_of}
use Rattle.vd_world.proofs.world_report.reporting.lines.Given as goal

abbrev pub invariant-loop-number : goal.invariant-loop-number
invariant-loop-number l = l.lines ≡ lines_of (supply_of l.world) (world_of l.world) l.number
