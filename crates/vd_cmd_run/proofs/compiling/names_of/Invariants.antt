use Rattle.std.proofs.Common.{◌≡◌, take}
use Rattle.vd_cmd_run.proofs.compiling.names_of.Given as goal

abbrev pub invariant-loop-host : goal.invariant-loop-host
invariant-loop-host l = l.names ≡ take l.host-index l.program.hosts
