use Rattle.std.proofs.Common.{take}
use Rattle.vd_noninter.specs.Hosts.{members}
use Rattle.vd_cmd_depends.specs.Telling.{AreFound, EachOne}
use Rattle.vd_cmd_depends.proofs.depends_command.sets_of.Given as goal

abbrev pub invariant-loop-host : goal.invariant-loop-host
invariant-loop-host l = EachOne (λ h set. AreFound l.program l.labels h (members set)) (take l.host-index l.group) l.sets
