use Rattle.vd_cmd_depends.proofs.Group.{Begun}
use Rattle.vd_cmd_depends.proofs.depends_command.hosts_named.Given as goal

abbrev pub invariant-loop-name : goal.invariant-loop-name
invariant-loop-name l = Begun l.hosts l.names l.name-index l.group
