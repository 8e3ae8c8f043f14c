use Rattle.std.proofs.Common.{◌≡◌}
use Rattle.vd_base.specs.HostSets.{hosts}
use Rattle.vd_cmd_draw.proofs.reveals_command.all_hosts.Given as goal

abbrev pub invariant-loop-number : goal.invariant-loop-number
invariant-loop-number l = l.list ≡ hosts l.number
