use Rattle.std.proofs.Common.{◌≡◌}
use Rattle.vd_world.specs.Hosts.{world_of}
use Rattle.vd_world.specs.Reports.{said_by}
use Rattle.vd_world.proofs.world_report.reporting.said.Given as goal

abbrev pub invariant-loop-to : goal.invariant-loop-to
invariant-loop-to l = l.said ≡ said_by (world_of l.world) l.to l.fn.from
