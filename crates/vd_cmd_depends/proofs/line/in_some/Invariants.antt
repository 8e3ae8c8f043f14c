use Rattle.std.proofs.Common.{◌≡◌}
use Rattle.std.specs.List.{filter}
use Rattle.vd_base.specs.HostSets.{hosts}
use Rattle.vd_cmd_depends.specs.Depending.{in_some}
use Rattle.vd_cmd_depends.proofs.line.in_some.Given as goal

abbrev pub invariant-loop-place : goal.invariant-loop-place
invariant-loop-place l = l.list ≡ filter (in_some l.sets) (hosts l.place)
