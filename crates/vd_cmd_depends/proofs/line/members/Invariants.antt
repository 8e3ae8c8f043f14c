use Rattle.std.proofs.Common.{◌≡◌}
use Rattle.vd_base.specs.HostSets.{members}
use Rattle.vd_cmd_depends.proofs.line.members.Given as goal

abbrev pub invariant-loop-place : goal.invariant-loop-place
invariant-loop-place l = l.list ≡ members l.place l.set
