use Rattle.std.proofs.Common.{◌≡◌, take}
use Rattle.vd_cmd_host.proofs.playing.names_of.Given as goal

abbrev pub invariant-loop-name : goal.invariant-loop-name
invariant-loop-name l = l.list ≡ take l.name-index l.names
