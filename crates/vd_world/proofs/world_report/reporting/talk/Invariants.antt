use Rattle.std.proofs.Common.{◌≡◌, map}
use Rattle.std.specs.List.{range_with_len}
use Rattle.vd_world.specs.Hosts.{world_of}
use Rattle.vd_world.specs.Reports.{said_by}
use Rattle.vd_world.proofs.world_report.reporting.talk.Given as goal

abbrev pub invariant-loop-from : goal.invariant-loop-from
invariant-loop-from l = l.talk ≡ map (said_by (world_of l.world) l.fn.hosts) (range_with_len 0 l.from)
